use Rattle.std.proofs.Common.{◌++◌, ◌+◌, ◌-◌, ◌≤◌, ℕ, List, length, min, sym, ap, ◌∙◌, subst, arith}
use Rattle.quic_wire_core.specs.Varint.{shortest}
use Rattle.quic_wire.specs.Writing.{spelling, frame_size}
use Rattle.quic_machine.specs.Poll.{close_with}
use Rattle.quic_connection_parts.proofs.Closed.{longest_goes, longest_room}
use Rattle.quic_connection_parts.proofs.closes.put_application_close.Goals as goal

pub put_frame-requires-clause-room : goal.put_frame-requires-clause-room
put_frame-requires-clause-room c =
    let code = c.args.code in
    let text : List ℕ = c.args.reason.now in
    let most = c.longest_text-most.result in
    let spelled = c.size.ensures.spelled in
    let eight = c.size.ensures.most in
    let fits = subst (λ (k : ℕ). most + length (shortest most) ≤ c.args.room - 1 - k) spelled c.longest_text-most.ensures.fits in
    let room = subst (λ (k : ℕ). frame_size (close_with k text c.min.result) ≤ c.args.room) (sym c.into_inner.ensures.value)
    (longest_room c.args.room code text most c.min.result (omega (arith, spelled, eight)) c.requires.some fits (omega (arith, c.min.ensures)) (omega (arith, c.min.ensures))) in
    let all = c.requires.room in
    omega (arith, room, all)

pub returns-clause-items : goal.returns-clause-items
returns-clause-items c =
    let code = c.args.code in
    let text : List ℕ = c.args.reason.now in
    let front : List ℕ = c.args.out.now.items in
    let most = c.longest_text-most.result in
    let spelled = c.size.ensures.spelled in
    let eight = c.size.ensures.most in
    let fits = subst (λ (k : ℕ). most + length (shortest most) ≤ c.args.room - 1 - k) spelled c.longest_text-most.ensures.fits in
    let goes = longest_goes c.args.room code text most (omega (arith, spelled, eight)) c.requires.some fits
    (λ n le. c.longest_text-most.ensures.longest n (subst (λ (k : ℕ). n + length (shortest n) ≤ c.args.room - 1 - k) (sym spelled) le)) in
    c.put_frame.ensures.items
    ∙ ap (λ (k : ℕ). front ++ spelling (close_with k text c.min.result)) c.into_inner.ensures.value
    ∙ ap (λ (n : ℕ). front ++ spelling (close_with code text n)) (c.min.ensures ∙ sym goes)

pub returns-clause-within : goal.returns-clause-within
returns-clause-within c =
    let code = c.args.code in
    let text : List ℕ = c.args.reason.now in
    let most = c.longest_text-most.result in
    let spelled = c.size.ensures.spelled in
    let eight = c.size.ensures.most in
    let fits = subst (λ (k : ℕ). most + length (shortest most) ≤ c.args.room - 1 - k) spelled c.longest_text-most.ensures.fits in
    let room = subst (λ (k : ℕ). frame_size (close_with k text c.min.result) ≤ c.args.room) (sym c.into_inner.ensures.value)
    (longest_room c.args.room code text most c.min.result (omega (arith, spelled, eight)) c.requires.some fits (omega (arith, c.min.ensures)) (omega (arith, c.min.ensures))) in
    let len = c.put_frame.ensures.len in
    omega (arith, room, len)
