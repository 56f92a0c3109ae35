use Rattle.std.proofs.Common.{◌≡◌, ◌≤◌, ◌<◌, ◌^◌, length}
use Rattle.quic_assembler.specs.Arrived.{in_front, joined}
use Rattle.quic_assembler.specs.PartSteps.{from_after}
use Rattle.quic_assembler.proofs.assembler.parts.run_from.Given as goal

abbrev pub invariant-loop-next : goal.invariant-loop-next
invariant-loop-next l = record {
  above : l.end ≤ l.last;
  small : l.last < 2 ^ 62;
  same : in_front (l.last, l.run.items) (joined (from_after l.last l.parts)) ≡ in_front (l.end, l.bytes) (joined (from_after l.end l.parts));
}

abbrev pub decreases-loop-next : goal.decreases-loop-next
decreases-loop-next l = length (from_after l.last l.parts)
