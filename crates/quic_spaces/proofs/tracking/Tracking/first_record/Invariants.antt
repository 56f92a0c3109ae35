use Rattle.std.proofs.Common.{◌≡◌, ◌-◌, ◌^◌}
use Rattle.quic_sent_packets.specs.Packets.{from}
use Rattle.quic_spaces.specs.Records.{first_record}
use Rattle.quic_spaces.proofs.tracking.Tracking.first_record.Given as goal

abbrev pub invariant-loop-number : goal.invariant-loop-number
invariant-loop-number l = first_record l.streams (from l.low l.self.packets) ≡ first_record l.streams l.self.packets

abbrev pub decreases-loop-number : goal.decreases-loop-number
decreases-loop-number l = 2 ^ 64 - l.low
