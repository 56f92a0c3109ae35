use Rattle.std.proofs.Common.{◌≡◌}
use Rattle.std.specs.List.{list_any}
use Rattle.quic_wire.specs.Items.{items, without_padding}
use Rattle.quic_machine.specs.Migration.{is_telling}
use Rattle.quic_connection_parts.proofs.receiving.tells_address.Given as goal

abbrev pub invariant-loop-item : goal.invariant-loop-item
invariant-loop-item l = list_any is_telling (without_padding (items l.item-iterator)) ≡ list_any is_telling (items l.payload)
