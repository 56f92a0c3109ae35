use Rattle.std.proofs.Common.{arith}
use Rattle.quic_sets.proofs.Offsets.Latest.{below_all, below_max}
use Rattle.quic_sets.proofs.index_set.IndexSet.first_lacking.Goals as goal

pub returns-then-first-self : goal.returns-then-first-self
returns-then-first-self c = λ k lt.
    let s = c.self.inside in
    rw (← c.self.view_is) (below_all s.start s.end s.others c.self.invariant.runs c.first_lacking-first.result c.first_lacking-first.ensures k lt)

pub returns : goal.returns
returns c = λ k lt.
    let s = c.self.inside in
    rw (← c.self.view_is) (below_max s.start s.end s.others c.self.invariant.runs c.first_lacking-first.result c.max.result c.first_lacking-first.ensures (omega arith) c.max.ensures k lt)
