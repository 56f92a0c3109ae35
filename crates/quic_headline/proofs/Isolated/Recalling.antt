-- What an end knows of what came, whatever the keys and whoever sent it: the numbers that opened,
-- and the number that it expects, are those that the lists say.
use Rattle.std.proofs.Common.{◌≡◌, ℕ, zero, suc, ◌+◌, Bool, true, false, ◌||◌, List, [], ◌∷◌, ◌++◌, Option, Some, None, Result, Ok, Err, inl, inr, refl, sym, ap, ◌∙◌, subst, arith}
use Rattle.std.specs.Prelude.{if◌then◌else◌, slice_get, max, not, ◌==◌, nat_le}
use Rattle.quic_wire_core.specs.declared.shared.EcnCodepoint.{EcnCodepoint}
use Rattle.quic_wire.specs.Items.{items}
use Rattle.quic_wire.specs.declared.frame.InvalidFrame.{InvalidFrame}
use Rattle.quic_wire.specs.Value.{FrameValue}
use Rattle.quic_packet.specs.Header.{key_phase, reserved_bits}
use Rattle.quic_packet.specs.Datagram.{Opening}
use Rattle.quic_packet.specs.declared.packet.HeaderError.{HeaderError}
use Rattle.quic_packet.specs.declared.packet.HeaderError.TheVariants as headers
use Rattle.quic_recovery_core.specs.Duplicates.{Seen, is_duplicate, after_insert}
use Rattle.quic_recovery_core.specs.DuplicateRuns.{seen_after}
use Rattle.quic_spaces.specs.Numbers.{expected, after_greatest, greatest_of, number_opened}
use Rattle.quic_machine.specs.Arrival.{Arrival, delivered_by}
use Rattle.quic_machine.specs.declared.answers.State.{State}
use Rattle.quic_machine.specs.declared.answers.State.TheVariants as states
use Rattle.quic_machine.specs.declared.answers.DropReason.{DropReason}
use Rattle.quic_machine.specs.declared.answers.DropReason.TheVariants as drops
use Rattle.quic_machine.specs.declared.answers.Received.TheVariants as receives
use Rattle.quic_machine.specs.declared.run.Call.{Call}
use Rattle.quic_machine.specs.declared.run.Call.TheVariants as calls
use Rattle.quic_machine.specs.declared.run.Delivery.{Delivery}
use Rattle.quic_machine.specs.declared.run.Answer.{Answer}
use Rattle.quic_machine.specs.declared.run.Answer.TheVariants as answers
use Rattle.quic_machine.specs.Policy.{Policy}
use Rattle.quic_machine.specs.Closing.{ticked}
use Rattle.quic_machine.specs.End.{End, with_closing, closed_by, with_numbers}
use Rattle.quic_machine.specs.Control.{Control}
use Rattle.quic_machine.specs.Opens.{head, in_phase, opens_behind}
use Rattle.quic_machine.specs.Receive.{Fault, broke, too_many_pieces, closed_by_peer, Progress, Outcome, error_of, reason_of, violation, is_empty, asks_in, is_urged, take_frame, take_items, take_payload, dropped, ends_as, by_state, is_read, items_taken, drawn_if, with_ids_drawn, has_migrated, unopened_in, opened_to, opened_as, opening, drop_of, headed, received_in, received}
use Rattle.quic_machine.specs.Poll.{Polled, Draft, polled, draft_as, lazied_as, Leaving, whole}
use Rattle.quic_machine.specs.DraftLaws.{Writing, by_leave, MayLeave}
use Rattle.quic_machine.specs.Puts as puts
use Rattle.quic_machine.specs.FrameCases.{Settling, begun, named, losses_keep, acked_keeps, frame_keeps, frame_leaves, items_keep, apart_leaves}
use Rattle.quic_machine.specs.Steps as steps
use Rattle.quic_machine.specs.LeaveCases.{by_expired}
use Rattle.quic_machine.specs.PollCases.{ready_at, ready_leaves, by_poll_to, draft_at, may_leave_at}
use Rattle.quic_machine.specs.CallCases.{Plain, is_delivery, by_plain_call, by_left}
use Rattle.quic_machine.specs.CallCases as cases
use Rattle.quic_machine.specs.Machine.{IsAnswer, IsDelivered, after_delivered, after_call, end_left, reads_window, fails, says_last}
use Rattle.quic_headline.specs.Runs.{Intake, is_again, is_refused, packet_of, handed, expected_behind, came_open, and_opened, and_handed}
use Rattle.quic_headline.specs.Isolated.{drops_whole, is_new}
use Rattle.quic_machine.specs.Heard.{Heard}
use Rattle.quic_headline.proofs.Packets.Intakes.{nothing_handed}
use Rattle.quic_headline.proofs.Packets.Apart.{by_waits, by_next_id}
use Rattle.quic_headline.proofs.Packets.Moved.{by_migrated_if}
use Rattle.quic_headline.proofs.Packets.Elsewhere.{by_dropped}
use Rattle.quic_headline.proofs.Packets.Closes.{by_closes}
use Rattle.quic_headline.proofs.Packets.Heard.{by_taken}
use Rattle.quic_headline.proofs.Packets.Probes.{by_going}
use Rattle.quic_headline.proofs.Packets.Window.{is_duplicate-is}
use Rattle.quic_headline.proofs.Packets.ByKey.{came_open_is}

-- An end recalls what came to it while it was open; one that is closing has noted further numbers.
pub record Recalls (state : State) (opened : Seen) (taken : Option ℕ) (i : Intake) : Type 0 where
  pub seen : state ≡ states.Open → opened ≡ seen_after i.opened
  pub further : List ℕ
  pub noted : opened ≡ seen_after (further ++ i.opened)
  pub expected : after_greatest taken ≡ expected_behind i.took

abbrev pub Keeps : End → Intake → Type 0
Keeps e i = Recalls e.closing.state e.numbers.opened e.numbers.taken i

-- so it does once it isn't open
closed_keeps : (state left : State) (opened : Seen) (taken : Option ℕ) (i : Intake) → (left ≡ states.Open → ⊥) → Recalls state opened taken i → Recalls left opened taken i
closed_keeps state left opened taken i shut k = record { seen = λ is. absurd (shut is); further = k.further; noted = k.noted; expected = k.expected }

closing_keeps : (state : State) (opened : Seen) (taken : Option ℕ) (i : Intake) → Recalls state opened taken i → Recalls states.Closing opened taken i
closing_keeps state opened taken i k = closed_keeps state states.Closing opened taken i (λ is. cc) k

drained_keeps : (state : State) (opened : Seen) (taken : Option ℕ) (i : Intake) → Recalls state opened taken i → Recalls states.Drained opened taken i
drained_keeps state opened taken i k = closed_keeps state states.Drained opened taken i (λ is. cc) k

-- ---- calls that are no delivery

module _ (i : Intake) where
  -- an end that recalls it still
  abbrev Still : End → Type 0
  Still e = Keeps e i

  settling : Settling Still
  settling (steps.known n) e k = k
  settling s e k = k

  -- an acknowledgement that became due leaves it
  lazied_still : (leaving : Leaving) (e : End) → Still e → Still (lazied_as leaving e)
  lazied_still whole e i = i
  lazied_still other e i = i

  draft_still : (leaving : Leaving) (e : End) → MayLeave leaving e → Still e → Still (draft_as leaving e).end
  draft_still leaving e due k = by_leave (λ (d : Draft). Still d.end) keep leaving e due (lazied_still leaving e k)
    where
      keep : Writing (λ (d : Draft). Still d.end)
      keep puts.ping d may k = k
      keep p d may k = k

  ready_still : (e : End) (now : ℕ) → Still e → Still (ready_at e now).end
  ready_still e now k = subst (λ (x : End). Still x) (sym (ready_leaves e now)) k

  polled_still : (p : Policy) (e : End) (now : ℕ) → Still e → Still (polled p e now).end
  polled_still p e now k = by_poll_to p e now (λ (q : Polled). Still q.end) (record {
    silent = k;
    failed = k;
    repeats = λ is. by_closes p (with_closing e (ticked e.closing now)) (λ (q : Polled). Still q.end) k (λ f goes. k);
    nothing = λ is none. ready_still e now k;
    closes = λ reason bound.
        let x : End = (ready_at e now).end in
        let closed = closing_keeps x.closing.state x.numbers.opened x.numbers.taken i (ready_still e now k) in
        by_closes p (closed_by reason x) (λ (q : Polled). Still q.end) closed (λ f goes. closed);
    gives = λ is may some. by_going Still p (draft_at e now) (λ pacing. draft_still (ready_at e now).leaving (ready_at e now).end (may_leave_at e now) (ready_still e now k));
  })

  call_still : (p : Policy) (e : End) (theirs : List (List ℕ)) (call : Call) (a : Answer) → is_delivery call ≡ false → Still e → Still (after_call p e theirs call a)
  call_still p e theirs call a other k = by_plain_call p e theirs Still call a cases_keep
    where
      cases_keep : Plain p e call Still
      cases_keep (cases.times now expiry) may = by_expired p.words e now Still (λ pending tracking timers waits asked runs packets. k) (λ pending timers waits asked runs. losses_keep Still settling (with_closing e (ticked e.closing now)) k) (λ x j. drained_keeps x.closing.state x.numbers.opened x.numbers.taken i j) expiry
      cases_keep (cases.polls now) may = polled_still p e now k
      cases_keep (cases.hears arrival d) is = absurd cc
      cases_keep (cases.closes reason f now) may = closing_keeps e.closing.state e.numbers.opened e.numbers.taken i k
      cases_keep (cases.waits now b) may = by_waits Still b (with_closing e (ticked e.closing now)) (drained_keeps e.closing.state e.numbers.opened e.numbers.taken i k) k
      cases_keep (cases.changes_id b) may = by_next_id Still e b k (λ c. k) (λ c most. k)
      cases_keep c may = k

  -- whichever window a poll reads
  pub left_still : (p : Policy) (control : Control) (heard : Heard) (e : End) (theirs : List (List ℕ)) (call : Call) (a : Answer) → is_delivery call ≡ false → Still e → Still (end_left p control heard e theirs call a)
  left_still p control heard e theirs call a other k = by_left p e theirs Still k (λ window blocked k. k) control heard call a (λ x pacing k. k) (λ x k. call_still p x theirs call a other k)

-- ---- a packet that is new

-- frames leave numbers and state of an end that noted a number, but for the greatest number that
-- was named
record IsBegun (e : End) (n : ℕ) (opened : Seen) (taken : Option ℕ) (state : State) : Type 0 where
  noted : opened ≡ after_insert e.numbers.opened n
  taken_same : taken ≡ e.numbers.taken
  state_same : state ≡ e.closing.state

module _ (e : End) (n : ℕ) where
  abbrev Begun : End → Type 0
  Begun x = IsBegun e n x.numbers.opened x.numbers.taken x.closing.state

  begun_settles : Settling Begun
  begun_settles (steps.known m) x b = b
  begun_settles s x b = b

  frame_begun : (f : FrameValue) (x : End) → Begun x → Begun (take_frame f x).end
  frame_begun = frame_keeps Begun (record { ack = λ rises a x b. acked_keeps Begun begun_settles rises a (named a x) b; on_streams = λ f x on b. frame_leaves Begun f x on (λ t. b); apart = λ f x is b. apart_leaves Begun f x is (λ c. b) (λ c most. b); message = λ m x b. b })

  payload_begun : (now first : ℕ) (is : List (Result FrameValue InvalidFrame)) → Begun (take_payload first is (begun e now n)).end
  payload_begun now first is = go (not (reserved_bits first == 0) || is_empty is)
    where
      start : Begun (begun e now n)
      start = record { noted = refl; taken_same = refl; state_same = refl }

      go : (b : Bool) → Begun (if b then record { end = begun e now n; fault = Some violation } else take_items is (begun e now n)).end
      go true = start
      go false = items_keep Begun frame_begun is (begun e now n) start

-- what came once a packet was taken, or was refused
abbrev with_new : Opening → Answer → Intake → Intake
with_new o a i = record {
  opened = o.number ∷ i.opened;
  took = if is_refused a then i.took else packet_of o ∷ i.took;
  part = if is_refused a then Some (packet_of o) else i.part;
}

-- the number that is expected behind one more
expected_after : (taken : Option ℕ) (n x : ℕ) → after_greatest taken ≡ x → after_greatest (Some (greatest_of taken n)) ≡ max (n + 1) x
expected_after None n x e = omega arith
expected_after (Some m) n x e = omega arith

-- all frames were taken of a packet that is new to an open end, or the peer closed, or one was at
-- fault: the end isn't open then
ends_keeps : (fault : Option Fault) (asking urged : Bool) (mark : Option EcnCodepoint) (e x : End) (o : Opening) (i : Intake) → e.closing.state ≡ states.Open → Keeps e i → Begun e o.number x
    → Keeps (ends_as fault asking urged o.number mark x).end (with_new o (answers.Deliver (ends_as fault asking urged o.number mark x).answer) i)
ends_keeps fault asking urged mark e x o i is_open k b = go fault
  where
    came : Intake
    came = with_new o (answers.Deliver receives.Taken) i

    noted : x.numbers.opened ≡ seen_after (o.number ∷ i.opened)
    noted = b.noted ∙ ap (λ (s : Seen). after_insert s o.number) (k.seen is_open)

    counts : after_greatest (Some (greatest_of x.numbers.taken o.number)) ≡ expected_behind came.took
    counts = expected_after x.numbers.taken o.number (expected_behind i.took) (ap (λ (t : Option ℕ). after_greatest t) b.taken_same ∙ k.expected)

    -- the end closes
    refused : (f : Fault) → Keeps (closed_by (reason_of f) x) (with_new o (answers.Deliver (receives.Closed (error_of f))) i)
    refused f = record { seen = λ is. absurd cc; further = []; noted = noted; expected = ap (λ (t : Option ℕ). after_greatest t) b.taken_same ∙ k.expected }

    go : (f : Option Fault) → Keeps (ends_as f asking urged o.number mark x).end (with_new o (answers.Deliver (ends_as f asking urged o.number mark x).answer) i)
    go None = by_taken (λ (y : End). Keeps y came) o.number asking urged mark x (λ idle alive. record { seen = λ still. noted; further = []; noted = noted; expected = counts })
    go (Some (closed_by_peer close)) = record { seen = λ is. absurd cc; further = []; noted = noted; expected = counts }
    go (Some (broke error)) = refused (broke error)
    go (Some too_many_pieces) = refused too_many_pieces

-- a packet that is new to an open end
state_keeps : (state : State) (o : Opening) (arrival : Arrival) (e : End) (i : Intake) → e.closing.state ≡ state → state ≡ states.Open → Keeps e i
    → Keeps (by_state state o arrival (with_numbers e (number_opened e.numbers o.number))).end (with_new o (answers.Deliver (by_state state o arrival (with_numbers e (number_opened e.numbers o.number))).answer) i)
state_keeps states.Open o arrival e i here is_open k =
    let begins : End = begun e arrival.now o.number in
    let asks = asks_in (items o.payload) in
    let within : List (Result FrameValue InvalidFrame) = items_taken o arrival e in
    let p : Progress = take_payload o.first within begins in
    ends_keeps p.fault asks (is_urged arrival.mark asks within begins) arrival.mark e p.end o i here k (payload_begun e o.number arrival.now o.first within)
state_keeps states.Closing o arrival e i here is_open k = absurd cc
state_keeps states.Drained o arrival e i here is_open k = absurd cc
state_keeps states.Failed o arrival e i here is_open k = absurd cc

-- ---- a delivery

-- ids that are drawn behind it change nothing of this, nor does another path
drawn_keeps : (b : Bool) (p : Policy) (e : End) (i : Intake) → Keeps e i → Keeps (drawn_if b p e) i
drawn_keeps true p e i k = k
drawn_keeps false p e i k = k

moved_keeps : (o : Opening) (p : Policy) (arrival : Arrival) (e : End) (i : Intake) → Keeps (with_ids_drawn p (opened_to o arrival e)).end i → Keeps (opened_as (Some o) p arrival e).end i
moved_keeps o p arrival e i k = let out = with_ids_drawn p (opened_to o arrival e) in by_migrated_if (λ (x : End). Keeps x i) p o arrival.remote out.end (λ c. k) (λ c most. k) (has_migrated o arrival.remote e out) k

-- a packet that opened, or didn't, at an open end
opened_keeps : (o : Opening) (p : Policy) (arrival : Arrival) (e : End) (i : Intake) → e.closing.state ≡ states.Open → Keeps e i
    → Keeps (opened_as (Some o) p arrival e).end (and_opened (in_phase (Some o)) (answers.Deliver (opened_as (Some o) p arrival e).answer) i)
opened_keeps o p arrival e i is_open k = moved_keeps o p arrival e (and_opened (in_phase (Some o)) (answers.Deliver (opened_to o arrival e).answer) i) (go (key_phase o.first))
  where
    noted : End
    noted = with_numbers e (number_opened e.numbers o.number)

    new : Outcome
    new = by_state e.closing.state o arrival noted

    tested : (twice again : Bool) → twice ≡ again
        → (let made = if twice then dropped drops.Duplicate e else new in Keeps (drawn_if (is_read made.answer) p made.end) (if again then i else with_new o (answers.Deliver made.answer) i))
    tested true true same = k
    tested false false same = drawn_keeps (is_read new.answer) p new.end (with_new o (answers.Deliver new.answer) i) (state_keeps e.closing.state o arrival e i refl is_open k)
    tested true false same = absurd cc
    tested false true same = absurd cc

    go : (phase : Bool) → (let made = if phase then dropped drops.KeyPhase e else (if is_duplicate e.numbers.opened o.number then dropped drops.Duplicate e else new) in
        Keeps (drawn_if (is_read made.answer) p made.end) (and_opened (if phase then None else Some o) (answers.Deliver made.answer) i))
    go true = k
    go false = tested (is_duplicate e.numbers.opened o.number) (is_again o.number i.opened) (is_duplicate-is i.opened e.numbers.opened o.number (k.seen is_open))

-- one that doesn't open is dropped, or an open end closes
unopened_keeps : (state : State) (b : Bool) (arrival : Arrival) (e : End) (i : Intake) → Keeps e i → Keeps (unopened_in state b arrival e).end i
unopened_keeps states.Open true arrival e i k = closing_keeps e.closing.state e.numbers.opened e.numbers.taken i k
unopened_keeps states.Open false arrival e i k = k
unopened_keeps states.Closing b arrival e i k = k
unopened_keeps states.Drained b arrival e i k = k
unopened_keeps states.Failed b arrival e i k = k

packet_keeps : (o : Option Opening) (p : Policy) (arrival : Arrival) (e : End) (i : Intake) → e.closing.state ≡ states.Open → Keeps e i → Keeps (opened_as o p arrival e).end (and_opened (in_phase o) (answers.Deliver (opened_as o p arrival e).answer) i)
packet_keeps None p arrival e i is_open k = unopened_keeps e.closing.state arrival.last arrival e i k
packet_keeps (Some o) p arrival e i is_open k = opened_keeps o p arrival e i is_open k

headed_keeps : (r : Result (List ℕ) DropReason) (p : Policy) (e : End) (arrival : Arrival) (d : List ℕ) (i : Intake) → e.closing.state ≡ states.Open → Keeps e i
    → Keeps (headed r p e arrival d).end (and_opened (opens_behind r p (expected e.numbers) d) (answers.Deliver (headed r p e arrival d).answer) i)
headed_keeps (Err error) p e arrival d i is_open k = k
headed_keeps (Ok id) p e arrival d i is_open k = packet_keeps (opening p e d) p arrival e i is_open k

-- a closing end notes the number of a packet that opens, and no more
noted_keeps : (o : Opening) (p : Policy) (arrival : Arrival) (e : End) (i : Intake) → e.closing.state ≡ states.Closing → Keeps e i → Keeps (opened_as (Some o) p arrival e).end i
noted_keeps o p arrival e i here k = moved_keeps o p arrival e i (go (key_phase o.first) (is_duplicate e.numbers.opened o.number))
  where
    noted : End
    noted = with_numbers e (number_opened e.numbers o.number)

    new : Keeps noted i
    new = record { seen = λ is. (let clash : states.Closing ≡ states.Open = sym here ∙ is in cc); further = o.number ∷ k.further; noted = ap (λ (s : Seen). after_insert s o.number) k.noted; expected = k.expected }

    go : (phase twice : Bool) → (let made = if phase then dropped drops.KeyPhase e else (if twice then dropped drops.Duplicate e else by_state e.closing.state o arrival noted) in Keeps (drawn_if (is_read made.answer) p made.end) i)
    go true twice = k
    go false true = k
    go false false = subst (λ (s : State). Keeps (drawn_if (is_read (by_state s o arrival noted).answer) p (by_state s o arrival noted).end) i) (sym here) new

closing_headed : (r : Result (List ℕ) DropReason) (p : Policy) (e : End) (arrival : Arrival) (d : List ℕ) (i : Intake) → e.closing.state ≡ states.Closing → Keeps e i → Keeps (headed r p e arrival d).end i
closing_headed (Err error) p e arrival d i here k = k
closing_headed (Ok id) p e arrival d i here k = go (opening p e d)
  where
    go : (o : Option Opening) → Keeps (opened_as o p arrival e).end i
    go None = unopened_keeps e.closing.state arrival.last arrival e i k
    go (Some o) = noted_keeps o p arrival e i here k

-- a datagram of whatever bytes
pub received_keeps : (p : Policy) (e : End) (arrival : Arrival) (d : List ℕ) (i : Intake) → Keeps e i → Keeps (received p e arrival d).end (and_handed e.closing.state (Some d) p (answers.Deliver (received p e arrival d).answer) i)
received_keeps p e arrival d i k = go e.closing.state refl
  where
    header : Result (List ℕ) DropReason
    header = head e arrival.remote d

    go : (state : State) → e.closing.state ≡ state → Keeps (received_in state p e arrival d).end (and_handed state (Some d) p (answers.Deliver (received_in state p e arrival d).answer) i)
    go states.Failed here = k
    go states.Drained here = k
    go states.Closing here = closing_headed header p e arrival d i here k
    go states.Open here =
        subst (λ (o : Option Opening). Keeps (headed header p e arrival d).end (and_opened o (answers.Deliver (headed header p e arrival d).answer) i)) (sym (came_open_is p e arrival d i.took k.expected))
        (headed_keeps header p e arrival d i here k)

-- what stands in a list stands in a longer one
pub first_get : {X : Type 0} (xs rest all : List X) (n : ℕ) (x : X) → xs ++ rest ≡ all → slice_get xs n ≡ Some x → slice_get all n ≡ Some x
first_get xs rest all n x is there = ap (λ ys. slice_get ys n) (sym is) ∙ further xs n there
  where
    further : (ys : List _) (m : ℕ) → slice_get ys m ≡ Some x → slice_get (ys ++ rest) m ≡ Some x
    further [] m q = cc
    further (y ∷ ys) zero q = q
    further (y ∷ ys) (suc m) q = further ys m q

-- a delivery, of a datagram that the other end gave or of none; `final` are all that it gives
delivered_keeps : (o : Option (List ℕ)) (p : Policy) (e : End) (theirs rest final : List (List ℕ)) (delivery : Delivery) (a : Answer) (i : Intake) → slice_get theirs delivery.index ≡ o → theirs ++ rest ≡ final → fails a ≡ false
    → IsDelivered p e delivery o a → Keeps e i → Keeps (after_delivered p e (delivered_by (says_last a) delivery) o) (and_handed e.closing.state (handed final (calls.Deliver delivery) a) p a i)
delivered_keeps None p e theirs rest final delivery a i at first served is k =
    subst (λ (b : Answer). Keeps e (and_handed e.closing.state (handed final (calls.Deliver delivery) b) p b i)) (sym is)
    (subst (λ (j : Intake). Keeps e j) (sym (nothing_handed e.closing.state p answers.NoDatagram i)) k)
delivered_keeps (Some d) p e theirs rest final delivery a i at first served (inl is) k =
    let made : Outcome = received p e (delivered_by (says_last a) delivery) d in
    let there : slice_get final delivery.index ≡ Some d = first_get theirs rest final delivery.index d first at in
    subst (λ (b : Answer). Keeps made.end (and_handed e.closing.state (handed final (calls.Deliver delivery) b) p b i)) (sym is)
    (subst (λ (h : Option (List ℕ)). Keeps made.end (and_handed e.closing.state h p (answers.Deliver made.answer) i)) (sym there) (received_keeps p e (delivered_by (says_last a) delivery) d i k))
delivered_keeps (Some d) p e theirs rest final delivery a i at first served (inr is) k = let clash : ◌≡◌ {A = Bool} true false = sym (ap fails is) ∙ served in absurd cc

-- any call that didn't fail: the end that it leaves recalls what came with it
pub call_keeps : (p : Policy) (control : Control) (heard : Heard) (e : End) (theirs rest final : List (List ℕ)) (call : Call) (a : Answer) (i : Intake) → theirs ++ rest ≡ final → fails a ≡ false
    → IsAnswer p (reads_window control heard call e) theirs call a → Keeps e i → Keeps (end_left p control heard e theirs call a) (and_handed e.closing.state (handed final call a) p a i)
call_keeps p control heard e theirs rest final (calls.Deliver delivery) a i first served is k = delivered_keeps (slice_get theirs delivery.index) p e theirs rest final delivery a i refl first served is k
call_keeps p control heard e theirs rest final call a i first served is k = subst (λ (j : Intake). Keeps (end_left p control heard e theirs call a) j) (sym (nothing_handed e.closing.state p a i)) (left_still i p control heard e theirs call a refl k)

-- ---- a datagram that is nothing new

-- it is dropped, and the end makes nothing of it
abbrev pub IsDropped : Outcome → Type 0
IsDropped made = (reason : DropReason) × (made.answer ≡ receives.Dropped reason) × (drops_whole reason ≡ true)

header_drops : (error : HeaderError) → drops_whole (drop_of error) ≡ true
header_drops headers.TooShort = refl
header_drops headers.NotShort = refl
header_drops headers.FixedBit = refl
header_drops headers.UnknownId = refl

-- what came before does, whatever came since
or_more : (b c : Bool) → c ≡ true → (b || c) ≡ true
or_more true c is = refl
or_more false c is = is

pub again_before : (n : ℕ) (further numbers : List ℕ) → is_again n numbers ≡ true → is_again n (further ++ numbers) ≡ true
again_before n [] numbers is = is
again_before n (m ∷ further) numbers is = or_more ((m == n) || nat_le (n + 257) m) (is_again n (further ++ numbers)) (again_before n further numbers is)

-- a packet that opens is a duplicate
opened_drops : (o : Opening) (p : Policy) (arrival : Arrival) (e : End) (i : Intake) → Keeps e i → is_new (in_phase (Some o)) i.opened ≡ false → IsDropped (opened_as (Some o) p arrival e)
opened_drops o p arrival e i k = go (key_phase o.first)
  where
    known_twice : is_again o.number i.opened ≡ true → is_duplicate e.numbers.opened o.number ≡ true
    known_twice is = is_duplicate-is (k.further ++ i.opened) e.numbers.opened o.number k.noted ∙ again_before o.number k.further i.opened is

    tested : (twice again : Bool) → (again ≡ true → twice ≡ true) → not again ≡ false
        → IsDropped (with_ids_drawn p (if twice then dropped drops.Duplicate e else by_state e.closing.state o arrival (with_numbers e (number_opened e.numbers o.number))))
    tested true again same old = (drops.Duplicate, refl, refl)
    tested false true same old = let clash : ◌≡◌ {A = Bool} false true = same refl in cc
    tested false false same old = absurd cc

    go : (phase : Bool) → is_new (if phase then None else Some o) i.opened ≡ false
        → IsDropped (with_ids_drawn p (if phase then dropped drops.KeyPhase e else (if is_duplicate e.numbers.opened o.number then dropped drops.Duplicate e else by_state e.closing.state o arrival (with_numbers e (number_opened e.numbers o.number)))))
    go true old = (drops.KeyPhase, refl, refl)
    go false old = tested (is_duplicate e.numbers.opened o.number) (is_again o.number i.opened) known_twice old

-- one that doesn't open is dropped, unless it is the last that may not
unopened_drops : (state : State) (b : Bool) (arrival : Arrival) (e : End) → b ≡ false → IsDropped (unopened_in state b arrival e)
unopened_drops states.Open true arrival e early = cc
unopened_drops states.Open false arrival e early = (drops.NotOpened, refl, refl)
unopened_drops states.Closing b arrival e early = (drops.NotOpened, refl, refl)
unopened_drops states.Drained b arrival e early = (drops.NotOpened, refl, refl)
unopened_drops states.Failed b arrival e early = (drops.NotOpened, refl, refl)

packet_drops : (o : Option Opening) (p : Policy) (arrival : Arrival) (e : End) (i : Intake) → arrival.last ≡ false → Keeps e i → is_new (in_phase o) i.opened ≡ false → IsDropped (opened_as o p arrival e)
packet_drops None p arrival e i early k old = unopened_drops e.closing.state arrival.last arrival e early
packet_drops (Some o) p arrival e i early k old = opened_drops o p arrival e i k old

headed_drops : (r : Result (List ℕ) DropReason) (p : Policy) (e : End) (arrival : Arrival) (d : List ℕ) (i : Intake) → arrival.last ≡ false → Keeps e i → head e arrival.remote d ≡ r → is_new (opens_behind r p (expected e.numbers) d) i.opened ≡ false → IsDropped (headed r p e arrival d)
headed_drops (Err reason) p e arrival d i early k is old = (reason, refl, by_dropped (λ (why : DropReason). drops_whole why ≡ true) e arrival.remote d reason refl header_drops is)
headed_drops (Ok id) p e arrival d i early k is old = packet_drops (opening p e d) p arrival e i early k old

-- a datagram that by the lists is nothing new is dropped, whatever the state of its end, unless it
-- is the last that may not open
pub old_is_dropped : (p : Policy) (e : End) (arrival : Arrival) (d : List ℕ) (i : Intake) → arrival.last ≡ false → Keeps e i → is_new (came_open p i.took (answers.Deliver (received p e arrival d).answer) d) i.opened ≡ false → IsDropped (received p e arrival d)
old_is_dropped p e arrival d i early k = go e.closing.state
  where
    header : Result (List ℕ) DropReason
    header = head e arrival.remote d

    reads : is_new (came_open p i.took (answers.Deliver (headed header p e arrival d).answer) d) i.opened ≡ false → IsDropped (headed header p e arrival d)
    reads old = headed_drops header p e arrival d i early k refl (ap (λ (o : Option Opening). is_new o i.opened) (sym (came_open_is p e arrival d i.took k.expected)) ∙ old)

    go : (state : State) → is_new (came_open p i.took (answers.Deliver (received_in state p e arrival d).answer) d) i.opened ≡ false → IsDropped (received_in state p e arrival d)
    go states.Failed old = (drops.Failed, refl, refl)
    go states.Drained old = (drops.Drained, refl, refl)
    go states.Closing old = reads old
    go states.Open old = reads old
