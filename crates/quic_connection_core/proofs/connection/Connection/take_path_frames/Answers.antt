use Rattle.std.proofs.Common.{rules, ◌≡◌, ℕ, List, refl, sym, ap, ◌∙◌}
use Rattle.quic_wire.specs.Items.{items, without_padding}
use Rattle.quic_wire.specs.FrameView.{item_view}
use Rattle.quic_machine.specs.End.{with_end}
use Rattle.quic_machine.specs.Migration.{path_frames_taken}
use Rattle.quic_connection_core.proofs.Migrated.{frames_unpadded, frames_step}
use Rattle.quic_connection_core.proofs.connection.Connection.take_path_frames.Goals as goal

pub loop-item-init : goal.loop-item-init
loop-item-init g c =
    let e = c.args.self.now.end in
    let same : c.into_iter-item-iterator.result ≡ c.args.payload.now = search rules in
    record {
      takes = ap (λ (bytes : List ℕ). path_frames_taken (without_padding (items bytes)) e) same ∙ frames_unpadded (items c.args.payload.now) e;
      others = refl;
    }

pub loop-item-preserved : goal.loop-item-preserved
loop-item-preserved g c =
    let w = c.loop-item.self in
    let e = c.take_path_item.ensures in
    record {
      takes = frames_step (item_view c.in-Some.item) (without_padding (items c.next.new.self)) (without_padding (items c.loop-item.item-iterator)) w.end c.take_path_item.new.self.end c.in-Some.ensures.steps (ap (λ x. x.end) e) ∙ c.loop-item.invariant.takes;
      others = e ∙ ap (λ x. with_end w x) (sym (ap (λ x. x.end) e)) ∙ ap (λ x. with_end x c.take_path_item.new.self.end) c.loop-item.invariant.others;
    }

pub returns : goal.returns
returns g c =
    let w = c.loop-item.self in
    c.loop-item.invariant.others
    ∙ ap (with_end c.args.self.now) (sym (ap (λ is. path_frames_taken is w.end) c.in-None.ensures.steps.0) ∙ c.loop-item.invariant.takes)
