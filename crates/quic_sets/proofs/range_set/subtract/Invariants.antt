use Rattle.std.proofs.Common.{◌+◌, ◌-◌, ◌≤◌, length, take}
use Rattle.std.specs.Vec.{vec_len, vec_capacity}
use Rattle.quic_sets.specs.Runs.{AreRuns, IsDifference}
use Rattle.quic_sets.proofs.range_set.subtract.Given as goal

-- the runs of the other set so far are done, and there is room for each that is left
abbrev pub invariant-loop-run : goal.invariant-loop-run
invariant-loop-run l = record {
  runs : AreRuns l.runs.items;
  room : vec_len l.runs + (length l.other - l.run-index) ≤ vec_capacity l.runs;
  so_far : IsDifference l.fn.runs.items (take l.run-index l.other) l.runs.items;
}
