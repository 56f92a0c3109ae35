use Rattle.std.proofs.Common.{◌≡◌}
use Rattle.quic_sent_packets.specs.Packets.{asks_any, within}
use Rattle.quic_spaces.proofs.tracking.Tracking.asks_within.Given as goal

abbrev pub invariant-loop-number : goal.invariant-loop-number
invariant-loop-number l = asks_any (within l.low l.fn.high l.self.packets) ≡ asks_any (within l.low l.last l.self.packets)

abbrev pub decreases-loop-number : goal.decreases-loop-number
decreases-loop-number l = l.last
