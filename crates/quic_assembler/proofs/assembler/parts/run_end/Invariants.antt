use Rattle.std.proofs.Common.{◌≤◌, ◌<◌, ◌^◌, length}
use Rattle.quic_assembler.specs.PartSteps.{from_after}
use Rattle.quic_assembler.proofs.assembler.parts.run_end.Given as goal

abbrev pub invariant-loop-next : goal.invariant-loop-next
invariant-loop-next l = record {
  above : l.at ≤ l.last;
  small : l.last < 2 ^ 62;
}

abbrev pub decreases-loop-next : goal.decreases-loop-next
decreases-loop-next l = length (from_after l.last l.parts)
