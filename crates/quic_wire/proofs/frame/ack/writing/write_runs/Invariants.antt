use Rattle.std.proofs.Common.{◌≡◌, ◌<◌, ◌≤◌, ◌^◌, ◌+◌, ◌++◌, length}
use Rattle.quic_sets.specs.Runs.{AreRuns}
use Rattle.quic_wire.specs.AckGrammar.{Below, range_numbers}
use Rattle.quic_wire.specs.AckSet.{ranges_of_set}
use Rattle.quic_wire.specs.NumbersWritten.{widths}
use Rattle.quic_wire.specs.Writing.{written, BeginWith}
use Rattle.quic_wire.proofs.frame.ack.writing.write_runs.Given as goal

abbrev pub invariant-loop-run : goal.invariant-loop-run
invariant-loop-run g l = record {
  runs : AreRuns l.left;
  down : Below l.low (ranges_of_set l.left);
  small : l.low < 2 ^ 62;
  begins : BeginWith (g.B.BufMut.written l.fn.buf) (g.B.BufMut.written l.buf);
  so_far : g.B.BufMut.written l.buf ++ written (range_numbers l.low (ranges_of_set l.left)) ≡ g.B.BufMut.written l.fn.buf ++ written (range_numbers l.below (ranges_of_set l.runs));
  spare : g.B.BufMut.spare l.fn.buf + widths (range_numbers l.low (ranges_of_set l.left)) ≤ g.B.BufMut.spare l.buf + widths (range_numbers l.below (ranges_of_set l.runs));
}

abbrev pub decreases-loop-run : goal.decreases-loop-run
decreases-loop-run g l = length l.left
