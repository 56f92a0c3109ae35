use Rattle.std.proofs.Common.{◌≡◌, ◌⊎◌, ◌+◌, ◌-◌, ◌≤◌, length, drop}
use Rattle.quic_assembler.specs.Arrived.{with_gaps}
use Rattle.quic_sets.specs.Parts.{undone}
use Rattle.quic_assembler.specs.PartSteps.{HasGap}
use Rattle.quic_assembler.proofs.assembler.parts.Parts.fill.Given as goal

abbrev pub invariant-loop-taken : goal.invariant-loop-taken
invariant-loop-taken l = record {
  within : l.taken ≤ length l.bytes;
  same : with_gaps l.fn.self l.at l.bytes ≡ with_gaps l.self (l.at + l.taken) (drop l.taken l.bytes);
  back : undone l.ends.items l.self ≡ undone l.fn.ends.items l.fn.self;
  gap : (l.self ≡ l.fn.self) ⊎ HasGap l.fn.self l.at (length l.bytes);
}

abbrev pub decreases-loop-taken : goal.decreases-loop-taken
decreases-loop-taken l = length l.bytes - l.taken
