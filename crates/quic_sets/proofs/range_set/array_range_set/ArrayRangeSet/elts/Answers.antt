use Rattle.quic_sets.proofs.ElementSteps.{filled, listed, has_listed, ascending}
use Rattle.quic_sets.proofs.range_set.array_range_set.ArrayRangeSet.elts.Goals as goal

pub new-requires : goal.new-requires
new-requires c = rw c.iter-runs.ensures.value (filled 0 c.args.self.now c.iter-runs.ensures.runs)

pub returns-clause-members : goal.returns-clause-members
returns-clause-members c = λ k. (listed c.args.self.now k, has_listed c.args.self.now k)

pub returns-clause-ascending : goal.returns-clause-ascending
returns-clause-ascending c = ascending 0 c.args.self.now c.iter-runs.ensures.runs
