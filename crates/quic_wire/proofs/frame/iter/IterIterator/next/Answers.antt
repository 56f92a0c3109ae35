use Rattle.std.proofs.Common.{rules, ◌≡◌, ◌<◌, ◌∷◌, [], List, Result, Err, length, ap, sym, ◌∙◌}
use Rattle.std.proofs.lemmas.List.{nil_from_length}
use Rattle.quic_wire.specs.declared.frame.InvalidFrame.{InvalidFrame}
use Rattle.quic_wire.specs.Value.{FrameValue}
use Rattle.quic_wire.specs.Items.{items}
use Rattle.quic_wire.specs.FrameView.{frame_view}
use Rattle.quic_wire.proofs.FrameItems.{items_nil, items_ok, items_err}
use Rattle.quic_wire.proofs.frame.iter.IterIterator.next.Goals as goal

pub returns-then-is_empty-clause-steps : goal.returns-then-is_empty-clause-steps
returns-then-is_empty-clause-steps c =
    let nothing : c.args.self.now ≡ [] = nil_from_length c.args.self.now (search rules) in
    let e : items c.args.self.now ≡ [] = ap items nothing ∙ items_nil in (e, e)

pub returns-in-Ok-clause-steps : goal.returns-in-Ok-clause-steps
returns-in-Ok-clause-steps c =
    let some : 0 < length c.args.self.now = search rules in
    items_ok c.args.self.now (frame_view c.in-Ok.frame) c.frame_of.new.bytes.now some (rw c.self.view_is at c.in-Ok.ensures)

pub returns-in-Ok-clause-goes : goal.returns-in-Ok-clause-goes
returns-in-Ok-clause-goes c =
    let some : 0 < length c.args.self.now = search rules in
    let shorter = ap length (items_ok c.args.self.now (frame_view c.in-Ok.frame) c.frame_of.new.bytes.now some (rw c.self.view_is at c.in-Ok.ensures)) in
    search rules

pub returns-in-Err-clause-steps : goal.returns-in-Err-clause-steps
returns-in-Err-clause-steps c =
    let some : 0 < length c.args.self.now = search rules in
    items_err c.args.self.now c.in-Err.invalid some (rw c.self.view_is at c.in-Err.ensures) ∙ ap (λ (xs : List (Result FrameValue InvalidFrame)). Err c.in-Err.invalid ∷ xs) (sym items_nil)

pub returns-in-Err-clause-goes : goal.returns-in-Err-clause-goes
returns-in-Err-clause-goes c =
    let some : 0 < length c.args.self.now = search rules in
    let shorter = ap length (items_err c.args.self.now c.in-Err.invalid some (rw c.self.view_is at c.in-Err.ensures)) in
    let none = ap length items_nil in
    search rules
