use Rattle.std.proofs.Common.{length}
use Rattle.quic_sets.specs.Runs.{AreRuns, Adds}
use Rattle.quic_sets.specs.Offsets.{with_prefix}
use Rattle.quic_sets.proofs.prefix_set.absorb.Given as goal

abbrev pub invariant-loop-run : goal.invariant-loop-run
invariant-loop-run l = record {
  runs : AreRuns l.rest;
  ok : Adds l.fn.rest (with_prefix l.end l.rest) 0 l.first;
}

abbrev pub decreases-loop-run : goal.decreases-loop-run
decreases-loop-run l = length l.rest
