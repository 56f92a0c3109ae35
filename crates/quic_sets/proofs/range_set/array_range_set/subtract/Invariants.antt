use Rattle.std.proofs.Common.{◌-◌, length, take}
use Rattle.smallvec.specs.SmallVec.{HasRoomFor}
use Rattle.quic_sets.specs.Runs.{AreRuns, IsDifference}
use Rattle.quic_sets.proofs.range_set.array_range_set.subtract.Given as goal

-- the runs of the other set so far are done, and there is room for each that is left
abbrev pub invariant-loop-run : goal.invariant-loop-run
invariant-loop-run l = record {
  runs : AreRuns l.runs.items;
  room : HasRoomFor l.runs (length l.other - l.run-index);
  so_far : IsDifference l.fn.runs.items (take l.run-index l.other) l.runs.items;
}
