use Rattle.quic_sets.proofs.RunEdits.{tail_runs}
use Rattle.quic_sets.proofs.range_set.RangeSet.pop_min.Goals as goal

pub invariant_of-self : goal.invariant_of-self
invariant_of-self c = rw c.remove.ensures.items (tail_runs _ c.self.invariant)
