use Rattle.std.proofs.Common.{◌≡◌, [], length}
use Rattle.quic_congestion.specs.Search.{open_probe}
use Rattle.quic_sent_packets.specs.Packets.{from}
use Rattle.quic_machine.specs.End.{with_end}
use Rattle.quic_machine.specs.Tracking.{lost_by}
use Rattle.quic_connection_parts.specs.Losses.{all_lost}
use Rattle.quic_connection_parts.specs.Tracked.{after_losses}
use Rattle.quic_connection_core.proofs.connection.Connection.on_packets_lost.Given as goal

abbrev pub invariant-loop-number : goal.invariant-loop-number
invariant-loop-number g l = record {
  lost : after_losses (open_probe l.initial.self.end.path.discovery) l.verdict l.self.end ≡ after_losses (open_probe l.initial.self.end.path.discovery) l.verdict l.initial.self.end;
  counts : all_lost l.initial.self.end.path.generation (open_probe l.initial.self.end.path.discovery) l.losses (lost_by l.verdict l.self.end.tracking.packets)
      ≡ all_lost l.initial.self.end.path.generation (open_probe l.initial.self.end.path.discovery) l.initial.losses (lost_by l.verdict l.initial.self.end.tracking.packets);
  behind : lost_by l.verdict (from l.low l.self.end.tracking.packets) ≡ lost_by l.verdict l.self.end.tracking.packets;
  none : lost_by l.verdict l.initial.self.end.tracking.packets ≡ [] → lost_by l.verdict l.self.end.tracking.packets ≡ [];
  generation : l.self.end.path.generation ≡ l.initial.self.end.path.generation;
  others : l.self ≡ with_end l.initial.self l.self.end;
}

abbrev pub decreases-loop-number : goal.decreases-loop-number
decreases-loop-number g l = length (lost_by l.verdict l.self.end.tracking.packets)
