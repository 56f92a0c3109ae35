use Rattle.std.proofs.Common.{◌≡◌, ◌<◌, ◌^◌, ◌+◌}
use Rattle.quic_wire.specs.AckGrammar.{Below, range_numbers}
use Rattle.quic_wire.specs.NumbersWritten.{widths}
use Rattle.quic_wire.proofs.frame.ack.size.size_of_ranges.Given as goal

abbrev pub invariant-loop-range : goal.invariant-loop-range
invariant-loop-range l = record {
  down : Below l.low l.range-iterator;
  small : l.low < 2 ^ 62;
  so_far : l.size + widths (range_numbers l.low l.range-iterator) ≡ widths (range_numbers l.fn.below l.fn.ranges);
}
