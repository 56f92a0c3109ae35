use Rattle.std.proofs.Common.{◌≡◌, ◌<◌, ◌^◌, ◌++◌, length}
use Rattle.quic_assembler.specs.Arrived.{joined}
use Rattle.quic_assembler.specs.PartSteps.{from_after}
use Rattle.quic_assembler.proofs.Parts.Joining.{AreUpTo}
use Rattle.quic_assembler.proofs.assembler.parts.join_all.Given as goal

abbrev pub invariant-loop-end : goal.invariant-loop-end
invariant-loop-end l = record {
  small : l.at < 2 ^ 62;
  below : AreUpTo l.at l.new;
  same : joined l.parts ≡ l.new ++ joined (from_after l.at l.parts);
}

abbrev pub decreases-loop-end : goal.decreases-loop-end
decreases-loop-end l = length (from_after l.at l.parts)
