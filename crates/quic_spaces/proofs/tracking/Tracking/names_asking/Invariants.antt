use Rattle.std.proofs.Common.{◌≡◌}
use Rattle.quic_sent_packets.specs.Packets.{asks_any}
use Rattle.quic_spaces.specs.Named.{among}
use Rattle.quic_spaces.specs.Tracking.{acked_by}
use Rattle.quic_spaces.proofs.tracking.Tracking.names_asking.Given as goal

abbrev pub invariant-loop-range : goal.invariant-loop-range
invariant-loop-range l = asks_any (acked_by l.frame l.self.packets) ≡ asks_any (among l.range-iterator l.self.packets)
