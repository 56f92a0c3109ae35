use Rattle.std.proofs.Common.{◌≡◌, ◌<◌, ◌≤◌, ◌^◌, ◌+◌, ◌*◌, length}
use Rattle.quic_sets.specs.Runs.{AreRuns}
use Rattle.quic_wire.specs.AckGrammar.{Below, range_numbers}
use Rattle.quic_wire.specs.AckSet.{ranges_of_set}
use Rattle.quic_wire.specs.NumbersWritten.{widths}
use Rattle.quic_wire.proofs.frame.ack.size.size_of_runs.Given as goal

abbrev pub invariant-loop-run : goal.invariant-loop-run
invariant-loop-run l = record {
  runs : AreRuns l.left;
  down : Below l.low (ranges_of_set l.left);
  small : l.low < 2 ^ 62;
  so_far : l.size + widths (range_numbers l.low (ranges_of_set l.left)) ≡ widths (range_numbers l.below (ranges_of_set l.runs));
  most : l.size + 16 * length l.left ≤ 16 * length l.runs;
}

abbrev pub decreases-loop-run : goal.decreases-loop-run
decreases-loop-run l = length l.left
