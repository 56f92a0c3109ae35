use Rattle.std.proofs.Common.{◌≡◌, ◌≤◌, ◌++◌, length}
use Rattle.quic_streams_parts.specs.Slots.{held, AllBelow}
use Rattle.quic_streams_parts.proofs.ring.Ring.reach.Given as goal

abbrev pub invariant-loop-self : goal.invariant-loop-self
invariant-loop-self g l = record {
  from : l.self.base ≤ l.number;
  below : AllBelow l.self.base l.earlier.entries;
  both : l.earlier.entries ++ held l.self ≡ l.fn.earlier.entries ++ held l.fn.self;
}

abbrev pub decreases-loop-self : goal.decreases-loop-self
decreases-loop-self g l = length l.self.slots
