use Rattle.std.proofs.Common.{◌≡◌, ◌+◌, ◌-◌, ◌≤◌, ◌^◌, length}
use Rattle.quic_sent_packets.specs.Packets.{from}
use Rattle.quic_spaces.proofs.tracking.count_above.Given as goal

abbrev pub invariant-loop-next : goal.invariant-loop-next
invariant-loop-next l = record {
  few : l.count + l.number ≤ l.last;
  counted : length (from (l.number + 1) l.packets) ≡ l.count + length (from (l.last + 1) l.packets);
}

abbrev pub decreases-loop-next : goal.decreases-loop-next
decreases-loop-next l = 2 ^ 64 - l.last
