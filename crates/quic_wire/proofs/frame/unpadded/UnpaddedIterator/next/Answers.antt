use Rattle.std.proofs.Common.{rules, ◌≡◌, ◌<◌, List, ◌∷◌, length, Result, Err, ap, sym, ◌∙◌}
use Rattle.quic_wire.specs.declared.frame.InvalidFrame.{InvalidFrame}
use Rattle.quic_wire.specs.Value.{FrameValue}
use Rattle.quic_wire.specs.FrameView.{frame_view}
use Rattle.quic_wire.proofs.Unpadded.{nothing_left, next_none, next_ok, next_err}
use Rattle.quic_wire.proofs.frame.unpadded.UnpaddedIterator.next.Goals as goal

pub returns-then-is_empty-clause-steps : goal.returns-then-is_empty-clause-steps
returns-then-is_empty-clause-steps c =
    let none : length c.behind_padding-rest.result.now ≡ 0 = search rules in
    let e = next_none c.args.self.now c.behind_padding-rest.result.now (rw c.self.view_is at c.behind_padding-rest.ensures.same) none in (e, e)

pub returns-in-Ok-clause-steps : goal.returns-in-Ok-clause-steps
returns-in-Ok-clause-steps c =
    let some : 0 < length c.behind_padding-rest.result.now = search rules in
    next_ok c.args.self.now c.behind_padding-rest.result.now (rw c.self.view_is at c.behind_padding-rest.ensures.same) some c.behind_padding-rest.ensures.begins (frame_view c.in-Ok.frame) c.frame_of.new.bytes.now c.in-Ok.ensures

pub returns-in-Ok-clause-goes : goal.returns-in-Ok-clause-goes
returns-in-Ok-clause-goes c =
    let some : 0 < length c.behind_padding-rest.result.now = search rules in
    let shorter = ap length (next_ok c.args.self.now c.behind_padding-rest.result.now (rw c.self.view_is at c.behind_padding-rest.ensures.same) some c.behind_padding-rest.ensures.begins (frame_view c.in-Ok.frame) c.frame_of.new.bytes.now c.in-Ok.ensures) in
    search rules

pub returns-in-Err-clause-steps : goal.returns-in-Err-clause-steps
returns-in-Err-clause-steps c =
    let some : 0 < length c.behind_padding-rest.result.now = search rules in
    next_err c.args.self.now c.behind_padding-rest.result.now (rw c.self.view_is at c.behind_padding-rest.ensures.same) some c.in-Err.invalid c.in-Err.ensures ∙ ap (λ (xs : List (Result FrameValue InvalidFrame)). Err c.in-Err.invalid ∷ xs) (sym nothing_left)

pub returns-in-Err-clause-goes : goal.returns-in-Err-clause-goes
returns-in-Err-clause-goes c =
    let some : 0 < length c.behind_padding-rest.result.now = search rules in
    let shorter = ap length (next_err c.args.self.now c.behind_padding-rest.result.now (rw c.self.view_is at c.behind_padding-rest.ensures.same) some c.in-Err.invalid c.in-Err.ensures) in
    let none = ap length nothing_left in
    search rules
