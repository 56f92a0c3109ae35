use Rattle.std.proofs.Common.{◌≡◌, ◌-◌}
use Rattle.quic_sent_packets.specs.Packets.{from}
use Rattle.quic_spaces.specs.Loss.{lost_by}
use Rattle.quic_spaces.proofs.tracking.Tracking.next_lost.Given as goal

abbrev pub invariant-loop-number : goal.invariant-loop-number
invariant-loop-number l = lost_by l.verdict (from l.low l.self.packets) ≡ lost_by l.verdict (from l.fn.low l.self.packets)

abbrev pub decreases-loop-number : goal.decreases-loop-number
decreases-loop-number l = l.verdict.greatest - l.low
