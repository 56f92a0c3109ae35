use Rattle.std.proofs.Common.{◌≡◌, ◌<◌, ◌≤◌, ◌^◌, ◌+◌, ◌++◌}
use Rattle.quic_wire.specs.AckGrammar.{Below, range_numbers}
use Rattle.quic_wire.specs.NumbersWritten.{widths}
use Rattle.quic_wire.specs.Writing.{written, BeginWith}
use Rattle.quic_wire.proofs.frame.ack.writing.write_ranges.Given as goal

abbrev pub invariant-loop-range : goal.invariant-loop-range
invariant-loop-range g l = record {
  down : Below l.low l.range-iterator;
  small : l.low < 2 ^ 62;
  begins : BeginWith (g.B.BufMut.written l.fn.buf) (g.B.BufMut.written l.buf);
  so_far : g.B.BufMut.written l.buf ++ written (range_numbers l.low l.range-iterator) ≡ g.B.BufMut.written l.fn.buf ++ written (range_numbers l.fn.below l.fn.ranges);
  spare : g.B.BufMut.spare l.fn.buf + widths (range_numbers l.low l.range-iterator) ≤ g.B.BufMut.spare l.buf + widths (range_numbers l.fn.below l.fn.ranges);
}
