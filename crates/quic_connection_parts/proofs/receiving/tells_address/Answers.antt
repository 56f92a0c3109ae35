use Rattle.std.proofs.Common.{◌≡◌, List, ℕ, sym, ap, ◌∙◌, rules}
use Rattle.std.specs.List.{list_any}
use Rattle.quic_wire.specs.Items.{items, without_padding}
use Rattle.quic_wire.specs.FrameView.{item_view}
use Rattle.quic_machine.specs.Migration.{is_telling}
use Rattle.quic_connection_parts.proofs.Unpadded.{telling_unpadded, telling_first, telling_step}
use Rattle.quic_connection_parts.proofs.receiving.tells_address.Goals as goal

pub loop-item-init : goal.loop-item-init
loop-item-init c =
    let same : c.into_iter-item-iterator.result ≡ c.args.payload.now = search rules in
    ap (λ (bytes : List ℕ). list_any is_telling (without_padding (items bytes))) same ∙ telling_unpadded (items c.args.payload.now)

pub loop-item-preserved : goal.loop-item-preserved
loop-item-preserved c = telling_step (item_view c.in-Some.item) _ _ _ c.in-Some.ensures.steps (sym c.if-is_telling.ensures) c.loop-item.invariant

pub returns-then-is_telling : goal.returns-then-is_telling
returns-then-is_telling c = telling_first (item_view c.in-Some.item) _ _ _ c.in-Some.ensures.steps (sym c.if-is_telling.ensures) c.loop-item.invariant
