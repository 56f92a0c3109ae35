use Rattle.std.proofs.Common.{rules, ◌≡◌, ◌-◌, ◌++◌, take, ℕ, true, false, Option, Some, sym, ap, ◌∙◌, arith}
use Rattle.std.specs.Prelude.{vec_len}
use Rattle.std.proofs.lemmas.List.{take_at}
use Rattle.quic_wire.specs.Value.{ack}
use Rattle.quic_wire.specs.Writing.{spelling}
use Rattle.quic_recovery_core.specs.PendingAcks.{can_send}
use Rattle.quic_spaces.specs.Numbers.{can_number}
use Rattle.quic_spaces.specs.Acknowledging.{delay_at}
use Rattle.quic_machine.specs.Tracking.{Carried, carried_in}
use Rattle.quic_machine.specs.End.{End, with_end}
use Rattle.quic_machine.specs.Poll.{ack_of, frame_room, asking}
use Rattle.quic_machine.specs.Validation.{path_waits}
use Rattle.quic_connection_parts.specs.Frames.{asked, fits_behind, ack_bytes_if, end_after_ack_if}
use Rattle.quic_spaces.specs.Marks.{told_counts}
use Rattle.quic_spaces.proofs.AckSize.{few_runs}
use Rattle.quic_connection_core.proofs.Plain.{front_of}
use Rattle.quic_connection_core.proofs.Asking.{asked_room, asked_numbers}
use Rattle.quic_connection_core.proofs.Composed.{due_bytes, due_end, due_says, late_bytes, late_end, late_is}
use Rattle.quic_connection_core.proofs.connection.Connection.put_frames.Goals as goal

pub put_ack-largest-requires-clause-room : goal.put_ack-largest-requires-clause-room
put_ack-largest-requires-clause-room g c few =
    let e = c.args.self.now.end in
    let most = few_runs (delay_at e.acknowledging e.closing.clock) (told_counts e.marks.came) e.acknowledging.runs few in
    let some = c.requires.some in
    let room = c.requires.room in
    omega (arith, most, some, room)

pub put_late_ack-largest-requires-clause-number : goal.put_late_ack-largest-requires-clause-number
put_late_ack-largest-requires-clause-number g c =
    ap (λ w. can_number w.end.numbers) c.in_ok-sent-2.ensures.end ∙ ap can_number (asked_numbers c.args.self.now.end (vec_len c.args.out.now - c.len-body.result)) ∙ c.requires.number

pub put_late_ack-largest-requires-clause-within : goal.put_late_ack-largest-requires-clause-within
put_late_ack-largest-requires-clause-within g c =
    let e : End = c.args.self.now.end in
    let same : frame_room c.put_asking-else-is_ack_due.new.self.end ≡ frame_room e = ap (λ w. frame_room w.end) c.in_ok-sent-2.ensures.end ∙ asked_room e (vec_len c.args.out.now - c.len-body.result) in
    let within = c.in_ok-sent-2.ensures.within in
    omega (arith, same, within)

pub put_late_ack-largest-requires-clause-room : goal.put_late_ack-largest-requires-clause-room
put_late_ack-largest-requires-clause-room g c =
    let e : End = c.args.self.now.end in
    let same : frame_room c.put_asking-else-is_ack_due.new.self.end ≡ frame_room e = ap (λ w. frame_room w.end) c.in_ok-sent-2.ensures.end ∙ asked_room e (vec_len c.args.out.now - c.len-body.result) in
    let capacity = c.in_ok-sent-2.ensures.capacity in
    let room = c.requires.room in
    let body = c.len-body.ensures in
    omega (arith, same, capacity, room, body)

pub returns-in_ok-sent-clause-items : goal.returns-in_ok-sent-clause-items
returns-in_ok-sent-clause-items g c =
    let e : End = c.args.self.now.end in
    let due : can_send e.acknowledging ≡ true = sym c.is_ack_due.ensures ∙ c.if-is_ack_due.true in
    let a = c.put_ack-largest.ensures in
    let body = c.len-body.ensures in
    let before = c.args.out.now.ok.0 in
    let mid = c.put_ack-largest.new.out.ok.0 in
    due_bytes e c.put_ack-largest.new.self.end c.args.out.now.items c.put_ack-largest.new.out.items c.put_asking.new.out.items (vec_len c.put_ack-largest.new.out - c.len-body.result) due (omega (arith, body, before, mid)) a.items (ap (λ w. w.end) a.end) c.in_ok-sent.ensures.items

pub returns-in_ok-sent-clause-end : goal.returns-in_ok-sent-clause-end
returns-in_ok-sent-clause-end g c =
    let e : End = c.args.self.now.end in
    let due : can_send e.acknowledging ≡ true = sym c.is_ack_due.ensures ∙ c.if-is_ack_due.true in
    let a = c.put_ack-largest.ensures in
    let body = c.len-body.ensures in
    let before = c.args.out.now.ok.0 in
    let mid = c.put_ack-largest.new.out.ok.0 in
    let used : ℕ = vec_len c.put_ack-largest.new.out - c.len-body.result in
    c.in_ok-sent.ensures.end
    ∙ ap (λ w. with_end w (asked c.put_ack-largest.new.self.end used).end) a.end
    ∙ ap (λ (x : End). with_end c.args.self.now x) (due_end e c.put_ack-largest.new.self.end c.args.out.now.items c.put_ack-largest.new.out.items used due (omega (arith, body, before, mid)) a.items (ap (λ w. w.end) a.end))

pub returns-in_ok-sent-clause-asks : goal.returns-in_ok-sent-clause-asks
returns-in_ok-sent-clause-asks g c =
    let e : End = c.args.self.now.end in
    let due : can_send e.acknowledging ≡ true = sym c.is_ack_due.ensures ∙ c.if-is_ack_due.true in
    let a = c.put_ack-largest.ensures in
    let body = c.len-body.ensures in
    let before = c.args.out.now.ok.0 in
    let mid = c.put_ack-largest.new.out.ok.0 in
    let used : ℕ = vec_len c.put_ack-largest.new.out - c.len-body.result in
    c.with_ack.ensures.asks ∙ c.in_ok-sent.ensures.asks ∙ (due_says e c.put_ack-largest.new.self.end c.args.out.now.items c.put_ack-largest.new.out.items used due (omega (arith, body, before, mid)) a.items (ap (λ w. w.end) a.end)).0

pub returns-in_ok-sent-clause-carried : goal.returns-in_ok-sent-clause-carried
returns-in_ok-sent-clause-carried g c =
    let e : End = c.args.self.now.end in
    let due : can_send e.acknowledging ≡ true = sym c.is_ack_due.ensures ∙ c.if-is_ack_due.true in
    let a = c.put_ack-largest.ensures in
    let body = c.len-body.ensures in
    let before = c.args.out.now.ok.0 in
    let mid = c.put_ack-largest.new.out.ok.0 in
    let used : ℕ = vec_len c.put_ack-largest.new.out - c.len-body.result in
    let said = (due_says e c.put_ack-largest.new.self.end c.args.out.now.items c.put_ack-largest.new.out.items used due (omega (arith, body, before, mid)) a.items (ap (λ w. w.end) a.end)).1 in
    c.with_ack.ensures.carried
    ∙ ap (λ (x : Carried). record x { largest_acked = Some c.put_ack-largest.result }) c.in_ok-sent.ensures.carried
    ∙ ap (λ (k : ℕ). record (carried_in (asked c.put_ack-largest.new.self.end used).frames) { largest_acked = Some k }) (search rules)
    ∙ said

pub returns-in_ok-sent-2-clause-items : goal.returns-in_ok-sent-2-clause-items
returns-in_ok-sent-2-clause-items g c =
    let e : End = c.args.self.now.end in
    let late : can_send e.acknowledging ≡ false = sym c.is_ack_due.ensures ∙ c.if-is_ack_due.false in
    let body = c.len-body.ensures in
    let before = c.args.out.now.ok.0 in
    let mid = c.put_asking-else-is_ack_due.new.out.ok.0 in
    let none : vec_len c.args.out.now - c.len-body.result ≡ 0 = omega (arith, body) in
    let items : c.put_asking-else-is_ack_due.new.out.items ≡ c.args.out.now.items ++ (asked e 0).bytes = c.in_ok-sent-2.ensures.items ∙ ap (λ (k : ℕ). c.args.out.now.items ++ (asked e k).bytes) none in
    let left : c.put_asking-else-is_ack_due.new.self.end ≡ (asked e 0).end = ap (λ w. w.end) c.in_ok-sent-2.ensures.end ∙ ap (λ (k : ℕ). (asked e k).end) none in
    late_bytes e c.put_asking-else-is_ack_due.new.self.end c.args.out.now.items c.put_asking-else-is_ack_due.new.out.items c.put_late_ack-largest.new.out.items (vec_len c.put_asking-else-is_ack_due.new.out - c.len-body.result) late items left (omega (arith, body, before, mid)) c.put_late_ack-largest.ensures.items

pub returns-in_ok-sent-2-clause-end : goal.returns-in_ok-sent-2-clause-end
returns-in_ok-sent-2-clause-end g c =
    let e : End = c.args.self.now.end in
    let late : can_send e.acknowledging ≡ false = sym c.is_ack_due.ensures ∙ c.if-is_ack_due.false in
    let body = c.len-body.ensures in
    let before = c.args.out.now.ok.0 in
    let mid = c.put_asking-else-is_ack_due.new.out.ok.0 in
    let none : vec_len c.args.out.now - c.len-body.result ≡ 0 = omega (arith, body) in
    let items : c.put_asking-else-is_ack_due.new.out.items ≡ c.args.out.now.items ++ (asked e 0).bytes = c.in_ok-sent-2.ensures.items ∙ ap (λ (k : ℕ). c.args.out.now.items ++ (asked e k).bytes) none in
    let left : c.put_asking-else-is_ack_due.new.self.end ≡ (asked e 0).end = ap (λ w. w.end) c.in_ok-sent-2.ensures.end ∙ ap (λ (k : ℕ). (asked e k).end) none in
    let used : ℕ = vec_len c.put_asking-else-is_ack_due.new.out - c.len-body.result in
    c.put_late_ack-largest.ensures.end
    ∙ ap (λ w. with_end w (end_after_ack_if (fits_behind c.put_asking-else-is_ack_due.new.self.end used) c.put_asking-else-is_ack_due.new.self.end)) c.in_ok-sent-2.ensures.end
    ∙ ap (λ (x : End). with_end c.args.self.now x) (late_end e c.put_asking-else-is_ack_due.new.self.end c.args.out.now.items c.put_asking-else-is_ack_due.new.out.items used late items left (omega (arith, body, before, mid)))

pub returns-in_ok-sent-2-clause-within : goal.returns-in_ok-sent-2-clause-within
returns-in_ok-sent-2-clause-within g c =
    let e : End = c.args.self.now.end in
    let same : frame_room c.put_asking-else-is_ack_due.new.self.end ≡ frame_room e = ap (λ w. frame_room w.end) c.in_ok-sent-2.ensures.end ∙ asked_room e (vec_len c.args.out.now - c.len-body.result) in
    let within = c.put_late_ack-largest.ensures.within in
    let body = c.len-body.ensures in
    omega (arith, same, within, body)

pub returns-in_ok-sent-2-clause-asks : goal.returns-in_ok-sent-2-clause-asks
returns-in_ok-sent-2-clause-asks g c =
    let e : End = c.args.self.now.end in
    let late : can_send e.acknowledging ≡ false = sym c.is_ack_due.ensures ∙ c.if-is_ack_due.false in
    let body = c.len-body.ensures in
    let before = c.args.out.now.ok.0 in
    let mid = c.put_asking-else-is_ack_due.new.out.ok.0 in
    let none : vec_len c.args.out.now - c.len-body.result ≡ 0 = omega (arith, body) in
    let items : c.put_asking-else-is_ack_due.new.out.items ≡ c.args.out.now.items ++ (asked e 0).bytes = c.in_ok-sent-2.ensures.items ∙ ap (λ (k : ℕ). c.args.out.now.items ++ (asked e k).bytes) none in
    let left : c.put_asking-else-is_ack_due.new.self.end ≡ (asked e 0).end = ap (λ w. w.end) c.in_ok-sent-2.ensures.end ∙ ap (λ (k : ℕ). (asked e k).end) none in
    let used : ℕ = vec_len c.put_asking-else-is_ack_due.new.out - c.len-body.result in
    c.with_ack-else-is_ack_due.ensures.asks ∙ c.in_ok-sent-2.ensures.asks ∙ ap (λ (k : ℕ). asking (asked e k).frames) none
    ∙ (late_is e c.put_asking-else-is_ack_due.new.self.end c.args.out.now.items c.put_asking-else-is_ack_due.new.out.items used late items left (omega (arith, body, before, mid))).0

pub returns-in_ok-sent-2-clause-carried : goal.returns-in_ok-sent-2-clause-carried
returns-in_ok-sent-2-clause-carried g c =
    let e : End = c.args.self.now.end in
    let late : can_send e.acknowledging ≡ false = sym c.is_ack_due.ensures ∙ c.if-is_ack_due.false in
    let body = c.len-body.ensures in
    let before = c.args.out.now.ok.0 in
    let mid = c.put_asking-else-is_ack_due.new.out.ok.0 in
    let none : vec_len c.args.out.now - c.len-body.result ≡ 0 = omega (arith, body) in
    let items : c.put_asking-else-is_ack_due.new.out.items ≡ c.args.out.now.items ++ (asked e 0).bytes = c.in_ok-sent-2.ensures.items ∙ ap (λ (k : ℕ). c.args.out.now.items ++ (asked e k).bytes) none in
    let left : c.put_asking-else-is_ack_due.new.self.end ≡ (asked e 0).end = ap (λ w. w.end) c.in_ok-sent-2.ensures.end ∙ ap (λ (k : ℕ). (asked e k).end) none in
    let used : ℕ = vec_len c.put_asking-else-is_ack_due.new.out - c.len-body.result in
    c.with_ack-else-is_ack_due.ensures.carried
    ∙ ap (λ (x : Carried). record x { largest_acked = c.put_late_ack-largest.result }) (c.in_ok-sent-2.ensures.carried ∙ ap (λ (k : ℕ). carried_in (asked e k).frames) none)
    ∙ ap (λ (o : Option ℕ). record (carried_in (asked e 0).frames) { largest_acked = o }) c.put_late_ack-largest.ensures.largest
    ∙ (late_is e c.put_asking-else-is_ack_due.new.self.end c.args.out.now.items c.put_asking-else-is_ack_due.new.out.items used late items left (omega (arith, body, before, mid))).1

pub returns-in_err-sent-clause-front : goal.returns-in_err-sent-clause-front
returns-in_err-sent-clause-front g c =
    let old = c.args.out.now.ok.0 in
    let len = c.put_ack-largest.ensures.len in
    front_of c.args.out.now.items c.put_ack-largest.new.out.items c.put_asking.new.out.items (spelling (ack (ack_of c.args.self.now.end))) (vec_len c.args.out.now) (vec_len c.put_ack-largest.new.out) old (omega (arith, len)) c.put_ack-largest.ensures.items c.put_asking.ensures.front

pub returns-in_ok-sent-clause-front : goal.returns-in_ok-sent-clause-front
returns-in_ok-sent-clause-front g c =
    let old = c.args.out.now.ok.0 in
    let len = c.put_ack-largest.ensures.len in
    front_of c.args.out.now.items c.put_ack-largest.new.out.items c.put_asking.new.out.items (spelling (ack (ack_of c.args.self.now.end))) (vec_len c.args.out.now) (vec_len c.put_ack-largest.new.out) old (omega (arith, len)) c.put_ack-largest.ensures.items c.put_asking.ensures.front

pub returns-in_ok-sent-2-clause-front : goal.returns-in_ok-sent-2-clause-front
returns-in_ok-sent-2-clause-front g c =
    let e : End = c.args.self.now.end in
    let mid = c.put_asking-else-is_ack_due.new.out in
    let used : ℕ = vec_len mid - c.len-body.result in
    front_of c.args.out.now.items mid.items c.put_late_ack-largest.new.out.items (asked e (vec_len c.args.out.now - c.len-body.result)).bytes (vec_len c.args.out.now) (vec_len mid) c.args.out.now.ok.0 c.in_ok-sent-2.ensures.grows c.in_ok-sent-2.ensures.items
    (ap (λ z. take (vec_len mid) z) c.put_late_ack-largest.ensures.items ∙ take_at mid.items (ack_bytes_if (fits_behind c.put_asking-else-is_ack_due.new.self.end used) c.put_asking-else-is_ack_due.new.self.end) (vec_len mid) (sym mid.ok.0))

-- what asks for a whole datagram is as it was before the acknowledgement
pub returns-in_ok-sent-clause-pads : goal.returns-in_ok-sent-clause-pads
returns-in_ok-sent-clause-pads g c =
    c.with_ack.ensures.pads ∙ c.in_ok-sent.ensures.pads ∙ ap (λ w. path_waits w.end) c.put_ack-largest.ensures.end

pub returns-in_ok-sent-2-clause-pads : goal.returns-in_ok-sent-2-clause-pads
returns-in_ok-sent-2-clause-pads g c = c.with_ack-else-is_ack_due.ensures.pads ∙ c.in_ok-sent-2.ensures.pads
