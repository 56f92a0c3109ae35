use Rattle.std.proofs.Common.{◌≡◌, ◌⊎◌, ◌+◌, ◌-◌, ◌≤◌, length, drop}
use Rattle.quic_assembler.specs.Arrived.{with_free}
use Rattle.quic_sets.specs.Parts.{undone}
use Rattle.quic_assembler.specs.PartSteps.{HasFree}
use Rattle.quic_assembler.proofs.assembler.parts.Parts.fill_free.Given as goal

abbrev pub invariant-loop-taken : goal.invariant-loop-taken
invariant-loop-taken l = record {
  within : l.taken ≤ length l.bytes;
  same : with_free l.given.entries l.fn.self l.at l.bytes ≡ with_free l.given.entries l.self (l.at + l.taken) (drop l.taken l.bytes);
  back : undone l.ends.items l.self ≡ undone l.fn.ends.items l.fn.self;
  free : (l.self ≡ l.fn.self) ⊎ HasFree l.given.entries l.fn.self l.at (length l.bytes);
}

abbrev pub decreases-loop-taken : goal.decreases-loop-taken
decreases-loop-taken l = length l.bytes - l.taken
