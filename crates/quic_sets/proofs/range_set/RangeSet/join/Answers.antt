use Rattle.std.proofs.Common.{sym}
use Rattle.quic_sets.proofs.JoinSteps.{joined_runs, joined_empty}
use Rattle.quic_sets.proofs.range_set.RangeSet.join.Goals as goal

pub invariant_of-self : goal.invariant_of-self
invariant_of-self c = rw c.join.ensures (joined_runs c.args.range.start c.args.range.end c.self.inside.runs.items c.self.invariant)

pub returns-else-range : goal.returns-else-range
returns-else-range c = sym (joined_empty c.args.range.start c.args.range.end c.args.self.now c.if-range.false)
