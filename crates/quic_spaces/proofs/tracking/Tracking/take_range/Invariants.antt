use Rattle.std.proofs.Common.{◌≡◌, ◌++◌, length, reverse}
use Rattle.quic_sent_packets.specs.Packets.{within}
use Rattle.quic_spaces.specs.Named.{outside}
use Rattle.quic_spaces.proofs.tracking.Tracking.take_range.Given as goal

abbrev pub invariant-loop-number : goal.invariant-loop-number
invariant-loop-number l = record {
  left : outside l.low l.high l.self.packets ≡ outside l.low l.fn.high l.fn.self.packets;
  others : l.self ≡ record l.fn.self { packets = l.self.packets };
  taken : within l.low l.high l.self.packets ++ reverse l.taken.items ≡ within l.low l.fn.high l.fn.self.packets ++ reverse l.fn.taken.items;
}

abbrev pub decreases-loop-number : goal.decreases-loop-number
decreases-loop-number l = length (within l.low l.high l.self.packets)
