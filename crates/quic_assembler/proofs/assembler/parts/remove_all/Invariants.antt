use Rattle.std.proofs.Common.{◌≡◌, length}
use Rattle.quic_sets.specs.Parts.{undone}
use Rattle.quic_assembler.proofs.assembler.parts.remove_all.Given as goal

abbrev pub invariant-loop-end : goal.invariant-loop-end
invariant-loop-end l = undone l.ends.items l.parts ≡ undone l.fn.ends.items l.fn.parts

abbrev pub decreases-loop-end : goal.decreases-loop-end
decreases-loop-end l = length l.ends.items
