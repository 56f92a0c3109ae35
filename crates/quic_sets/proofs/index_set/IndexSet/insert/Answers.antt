use Rattle.std.proofs.Common.{◌≡◌, ◌+◌, arith}
use Rattle.std.proofs.lemmas.Result.{on_ok_weaker}
use Rattle.quic_sets.proofs.Offsets.Edits.{with_runs}
use Rattle.quic_sets.proofs.Offsets.Latest.{goes_on, begins, comes_late}
use Rattle.quic_sets.proofs.index_set.IndexSet.insert.Goals as goal

pub returns-then-index-self-clause-ok : goal.returns-then-index-self-clause-ok
returns-then-index-self-clause-ok c =
    let s = c.self.inside in
    rw (← c.self.view_is) (on_ok_weaker c.insert.result (λ adds. comes_late s.start s.end s.others c.self.invariant.runs c.insert.new.self c.insert.ensures.runs c.args.index (c.args.index + 1) adds) c.insert.ensures.ok)

pub returns-then-index-self-clause-runs : goal.returns-then-index-self-clause-runs
returns-then-index-self-clause-runs c = with_runs c.self.inside.start c.self.inside.end c.insert.new.self c.insert.ensures.runs

pub returns-then-index-self-2-clause-ok : goal.returns-then-index-self-2-clause-ok
returns-then-index-self-2-clause-ok c =
    let s = c.self.inside in
    let at : c.args.index ≡ s.end = omega arith in
    rw (← c.self.view_is, at) (goes_on s.start s.end s.others c.self.invariant.runs c.self.invariant.ordered)

pub returns-then-index-self-2-clause-runs : goal.returns-then-index-self-2-clause-runs
returns-then-index-self-2-clause-runs c = with_runs c.self.inside.start (c.self.inside.end + 1) c.self.inside.others c.self.invariant.runs

pub returns-in_err-insert-clause-runs : goal.returns-in_err-insert-clause-runs
returns-in_err-insert-clause-runs c = with_runs c.self.inside.start c.self.inside.end c.insert-2.new.self c.insert-2.ensures.runs

pub returns-clause-ok : goal.returns-clause-ok
returns-clause-ok c =
    let s = c.self.inside in
    rw (← c.self.view_is) (begins s.start s.end s.others c.self.invariant.runs c.insert-2.new.self c.insert-2.ensures.runs c.args.index c.in_ok-insert.ensures.ok)

pub returns-clause-runs : goal.returns-clause-runs
returns-clause-runs c = with_runs c.args.index (c.args.index + 1) c.insert-2.new.self c.insert-2.ensures.runs
