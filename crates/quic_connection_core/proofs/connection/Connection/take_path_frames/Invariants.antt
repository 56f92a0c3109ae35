use Rattle.std.proofs.Common.{◌≡◌}
use Rattle.quic_wire.specs.Items.{items, without_padding}
use Rattle.quic_machine.specs.End.{with_end}
use Rattle.quic_machine.specs.Migration.{path_frames_taken}
use Rattle.quic_connection_core.proofs.connection.Connection.take_path_frames.Given as goal

abbrev pub invariant-loop-item : goal.invariant-loop-item
invariant-loop-item g l = record {
  takes : path_frames_taken (without_padding (items l.item-iterator)) l.self.end ≡ path_frames_taken (items l.payload) l.initial.self.end;
  others : l.self ≡ with_end l.initial.self l.self.end;
}
