use Rattle.std.proofs.Common.{◌≡◌, ◌+◌, ◌-◌, ◌++◌, ◌≤◌, ℕ, Bool, max, List, length, ap, sym, ◌∙◌, arith}
use Rattle.std.specs.Prelude.{vec_len}
use Rattle.quic_packet.specs.Number.{truncated}
use Rattle.quic_packet.specs.Header.{header_bytes}
use Rattle.quic_spaces.specs.Numbers.{cut_against}
use Rattle.quic_machine.specs.End.{number_of}
use Rattle.std.proofs.lemmas.List.{length-append}
use Rattle.quic_machine.specs.Poll.{most_ordinary, draft_left, asking}
use Rattle.quic_connection_parts.specs.Leaving.{leaving_of, least_of, pads_left, zeros_of}
use Rattle.quic_connection_core.proofs.Plain.{front_of, same_numbers, same_filter, same_ids, least_at, same_least_of, least_within, most_within, payload_is, payload_long, size_is, plain_of}
use Rattle.quic_connection_core.proofs.connection.Connection.put_plain.Goals as goal

pub put_leave-requires-clause-some : goal.put_leave-requires-clause-some
put_leave-requires-clause-some g c =
    let width = c.put_header-width.ensures.width in
    let short = c.put_header-width.ensures.short in
    let size = c.most_ordinary-most.ensures.size in
    let big = c.most_ordinary-most.ensures.least in
    omega arith

pub put_leave-requires-clause-room : goal.put_leave-requires-clause-room
put_leave-requires-clause-room g c =
    let width = c.put_header-width.ensures.width in
    let len = c.put_header-width.ensures.len in
    let short = c.put_header-width.ensures.short in
    let capacity = c.put_header-width.ensures.capacity in
    let room = c.requires.room in
    let most = most_within (leaving_of c.args.leaving) c.args.self.now.end in
    let size = c.most_ordinary-most.ensures.size in
    let big = c.most_ordinary-most.ensures.least in
    omega arith

pub pad-requires-clause-room : goal.pad-requires-clause-room
pad-requires-clause-room g c =
    let e = c.args.self.now.end in
    let l = leaving_of c.args.leaving in
    let d = draft_left l e in
    let least : c.least_size-least.result ≡ least_at l (asking d.frames) e =
    c.least_size-least.ensures ∙ ap (λ w. least_of l c.in_ok-sent.sent.requires_padding c.in_ok-sent.sent.asks w.end) c.in_ok-sent.ensures.end ∙ ap (λ (b : Bool). least_of l b c.in_ok-sent.sent.asks d.end) c.in_ok-sent.ensures.pads
    ∙ ap (λ (b : Bool). least_of l (pads_left l e) b d.end) c.in_ok-sent.ensures.asks ∙ same_least_of l e c.requires.due (pads_left l e) (asking d.frames) in
    let sized = c.most_ordinary-most.ensures.size in
    let enough = c.most_ordinary-most.ensures.least in
    let big : 1200 ≤ most_ordinary e = omega (arith, sized, enough) in
    let most = least_within l (pads_left l e) (asking d.frames) e big in
    let ordinary = most_within l e in
    let few = c.saturating_sub.ensures in
    let within = c.in_ok-sent.ensures.within in
    let grows = c.in_ok-sent.ensures.grows in
    let width = c.put_header-width.ensures.width in
    let len = c.put_header-width.ensures.len in
    let short = c.put_header-width.ensures.short in
    let start = c.len-start.ensures in
    let body = c.len-body.ensures in
    let one = c.put_header-width.ensures.capacity in
    let two = c.in_ok-sent.ensures.capacity in
    let room = c.requires.room in
    omega arith

pub returns-clause-items : goal.returns-clause-items
returns-clause-items g c =
    let e = c.args.self.now.end in
    let l = leaving_of c.args.leaving in
    let d = draft_left l e in
    let t = truncated (number_of e) (cut_against e.numbers) in
    let before : List ℕ = c.put_header-width.new.out.items in
    let whole : List ℕ = c.put_leave.new.out.items in
    let least : c.least_size-least.result ≡ least_at l (asking d.frames) e =
    c.least_size-least.ensures ∙ ap (λ w. least_of l c.in_ok-sent.sent.requires_padding c.in_ok-sent.sent.asks w.end) c.in_ok-sent.ensures.end ∙ ap (λ (b : Bool). least_of l b c.in_ok-sent.sent.asks d.end) c.in_ok-sent.ensures.pads
    ∙ ap (λ (b : Bool). least_of l (pads_left l e) b d.end) c.in_ok-sent.ensures.asks ∙ same_least_of l e c.requires.due (pads_left l e) (asking d.frames) in
    let grown : vec_len c.put_leave.new.out ≡ vec_len c.put_header-width.new.out + length d.bytes =
    c.put_leave.new.out.ok.0 ∙ ap length c.in_ok-sent.ensures.items ∙ length-append before d.bytes ∙ ap (λ (k : ℕ). k + length d.bytes) (sym c.put_header-width.new.out.ok.0) in
    let few = c.saturating_sub.ensures in
    let width = c.put_header-width.ensures.width in
    let len = c.put_header-width.ensures.len in
    let start = c.len-start.ensures in
    let body = c.len-body.ensures in
    let zeros : max (4 - (c.put_header-width.result + (vec_len c.put_leave.new.out - c.len-body.result))) (c.saturating_sub.result - (vec_len c.put_leave.new.out - c.len-body.result)) ≡ zeros_of e (length d.bytes) (least_at l (asking d.frames) e)
    = omega (arith, least, grown, few, width, len, start, body) in
    plain_of c.args.out.now.items before (header_bytes e.ids.peer.id t) whole c.pad.new.out.items d.bytes _ _ c.put_header-width.ensures.items c.in_ok-sent.ensures.items c.pad.ensures.items zeros
    ∙ ap (λ (z : List ℕ). c.args.out.now.items ++ (header_bytes e.ids.peer.id t ++ z)) (sym (payload_is l e c.requires.due))

pub returns-clause-within : goal.returns-clause-within
returns-clause-within g c =
    let e = c.args.self.now.end in
    let l = leaving_of c.args.leaving in
    let d = draft_left l e in
    let least : c.least_size-least.result ≡ least_at l (asking d.frames) e =
    c.least_size-least.ensures ∙ ap (λ w. least_of l c.in_ok-sent.sent.requires_padding c.in_ok-sent.sent.asks w.end) c.in_ok-sent.ensures.end ∙ ap (λ (b : Bool). least_of l b c.in_ok-sent.sent.asks d.end) c.in_ok-sent.ensures.pads
    ∙ ap (λ (b : Bool). least_of l (pads_left l e) b d.end) c.in_ok-sent.ensures.asks ∙ same_least_of l e c.requires.due (pads_left l e) (asking d.frames) in
    let sized = c.most_ordinary-most.ensures.size in
    let enough = c.most_ordinary-most.ensures.least in
    let big : 1200 ≤ most_ordinary e = omega (arith, sized, enough) in
    let most = least_within l (pads_left l e) (asking d.frames) e big in
    let ordinary = most_within l e in
    let few = c.saturating_sub.ensures in
    let within = c.in_ok-sent.ensures.within in
    let grows = c.in_ok-sent.ensures.grows in
    let width = c.put_header-width.ensures.width in
    let len = c.put_header-width.ensures.len in
    let short = c.put_header-width.ensures.short in
    let start = c.len-start.ensures in
    let body = c.len-body.ensures in
    let padded = c.pad.ensures.len in
    omega arith

pub returns-clause-size : goal.returns-clause-size
returns-clause-size g c =
    let e = c.args.self.now.end in
    let l = leaving_of c.args.leaving in
    let d = draft_left l e in
    let before : List ℕ = c.put_header-width.new.out.items in
    let least : c.least_size-least.result ≡ least_at l (asking d.frames) e =
    c.least_size-least.ensures ∙ ap (λ w. least_of l c.in_ok-sent.sent.requires_padding c.in_ok-sent.sent.asks w.end) c.in_ok-sent.ensures.end ∙ ap (λ (b : Bool). least_of l b c.in_ok-sent.sent.asks d.end) c.in_ok-sent.ensures.pads
    ∙ ap (λ (b : Bool). least_of l (pads_left l e) b d.end) c.in_ok-sent.ensures.asks ∙ same_least_of l e c.requires.due (pads_left l e) (asking d.frames) in
    let grown : vec_len c.put_leave.new.out ≡ vec_len c.put_header-width.new.out + length d.bytes =
    c.put_leave.new.out.ok.0 ∙ ap length c.in_ok-sent.ensures.items ∙ length-append before d.bytes ∙ ap (λ (k : ℕ). k + length d.bytes) (sym c.put_header-width.new.out.ok.0) in
    let few = c.saturating_sub.ensures in
    let width = c.put_header-width.ensures.width in
    let len = c.put_header-width.ensures.len in
    let start = c.len-start.ensures in
    let body = c.len-body.ensures in
    let padded = c.pad.ensures.len in
    let size = size_is l e c.requires.due in
    let long = payload_long l e c.requires.due in
    omega (arith, least, grown, few, width, len, start, body, padded, size, long)

pub returns-clause-filter : goal.returns-clause-filter
returns-clause-filter g c = ap (λ w. w.end.filter) c.in_ok-sent.ensures.end ∙ same_filter (leaving_of c.args.leaving) c.args.self.now.end c.requires.due

pub returns-clause-numbers : goal.returns-clause-numbers
returns-clause-numbers g c = ap (λ w. w.end.numbers) c.in_ok-sent.ensures.end ∙ same_numbers (leaving_of c.args.leaving) c.args.self.now.end c.requires.due

pub returns-clause-ids : goal.returns-clause-ids
returns-clause-ids g c = ap (λ w. w.end.ids) c.in_ok-sent.ensures.end ∙ same_ids (leaving_of c.args.leaving) c.args.self.now.end c.requires.due

pub returns-in_err-sent-clause-front : goal.returns-in_err-sent-clause-front
returns-in_err-sent-clause-front g c =
    let header : List ℕ = c.put_header-width.new.out.items in
    let len = c.put_header-width.ensures.len in
    let body = c.len-body.ensures in
    let old = c.args.out.now.ok.0 in
    let new = c.put_header-width.new.out.ok.0 in
    front_of c.args.out.now.items header c.put_leave.new.out.items _ (vec_len c.args.out.now) (vec_len c.put_header-width.new.out) old (omega (arith, len)) c.put_header-width.ensures.items c.put_leave.ensures.front
