use Rattle.std.proofs.Common.{subst, ◌∙◌}
use Rattle.quic_sets.specs.Runs.{AreRuns}
use Rattle.quic_sets.proofs.PieceSteps.{Begun, begun_apart, begun_met, begun_none}
use Rattle.quic_sets.proofs.range_set.RangeSet.begin.Goals as goal

none : (c : goal.Then-range) → Begun c.args.self.now c.args.self.now c.args.range.start c.args.range.end (record { start = 0; end = 0 })
none c = begun_none c.args.range.start c.args.range.end c.args.self.now (subst AreRuns c.self.view_is c.self.invariant) c.if-range.true

apart : (c : goal.Then-put_apart) → Begun c.args.self.now c.put_apart.new.runs.items c.args.range.start c.args.range.end (record { start = 0; end = 0 })
apart c = begun_apart c.args.range.start c.args.range.end c.args.self.now c.reserve.new.self.items c.put_apart.new.runs.items (subst AreRuns c.self.view_is c.self.invariant) c.if-range.false
    (c.in_ok-reserve.ensures.items ∙ c.self.view_is) (rw c.if-put_apart.true at c.put_apart.ensures)

met : (c : goal.Else-put_apart) → Begun c.args.self.now c.put_apart.new.runs.items c.args.range.start c.args.range.end c.args.range
met c = begun_met c.args.range.start c.args.range.end c.args.self.now c.reserve.new.self.items c.put_apart.new.runs.items (subst AreRuns c.self.view_is c.self.invariant) c.if-range.false
    (c.in_ok-reserve.ensures.items ∙ c.self.view_is) (rw c.if-put_apart.false at c.put_apart.ensures)

pub returns-then-range-clause-pieces : goal.returns-then-range-clause-pieces
returns-then-range-clause-pieces c = (none c).pieces

pub returns-then-range-clause-left : goal.returns-then-range-clause-left
returns-then-range-clause-left c = (none c).left

pub returns-then-range-clause-runs : goal.returns-then-range-clause-runs
returns-then-range-clause-runs c = (none c).runs

pub invariant_of-self-then-put_apart : goal.invariant_of-self-then-put_apart
invariant_of-self-then-put_apart c = (apart c).stays

pub returns-then-put_apart-clause-pieces : goal.returns-then-put_apart-clause-pieces
returns-then-put_apart-clause-pieces c = (apart c).pieces

pub returns-then-put_apart-clause-left : goal.returns-then-put_apart-clause-left
returns-then-put_apart-clause-left c = (apart c).left

pub returns-then-put_apart-clause-runs : goal.returns-then-put_apart-clause-runs
returns-then-put_apart-clause-runs c = (apart c).runs

pub returns-clause-left : goal.returns-clause-left
returns-clause-left c = (met c).left

pub returns-clause-runs : goal.returns-clause-runs
returns-clause-runs c = (met c).runs
