use Rattle.std.proofs.Common.{◌≡◌, ◌≤◌, ◌++◌, reverse}
use Rattle.quic_sent_packets.specs.Packets.{Ascends}
use Rattle.quic_spaces.proofs.Tails.{HoldsOfAll}
use Rattle.quic_spaces.specs.Named.{among, apart_from, Descends}
use Rattle.quic_spaces.proofs.tracking.Tracking.take_ranges.Given as goal

abbrev pub invariant-loop-range : goal.invariant-loop-range
invariant-loop-range l = record {
  down : Descends l.range-iterator;
  left : apart_from l.range-iterator l.self.packets ≡ apart_from l.fn.ranges l.fn.self.packets;
  up : Ascends l.self.packets;
  from : HoldsOfAll (λ n. l.first ≤ n) l.self.packets;
  others : l.self ≡ record l.fn.self { packets = l.self.packets };
  taken : among l.range-iterator l.self.packets ++ reverse l.taken.items ≡ among l.fn.ranges l.fn.self.packets ++ reverse l.fn.taken.items;
}
