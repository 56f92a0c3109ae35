use Rattle.quic_sets.specs.Offsets.{with_prefix}
use Rattle.quic_sets.proofs.Offsets.Prefix.{none_left, next_above, absorbed, adds_same}
use Rattle.quic_sets.proofs.prefix_set.absorb.Goals as goal

pub loop-run-smaller : goal.loop-run-smaller
loop-run-smaller c =
    let l = c.loop-run in
    (absorbed l.end c.max-end.result c.in-Some.run' l.rest c.remove_first.new.self c.in-Some.ensures c.max-end.ensures c.if-end-run.false l.invariant.runs c.remove_first.ensures.runs c.remove_first.ensures.ok).less

pub loop-run-preserved : goal.loop-run-preserved
loop-run-preserved c =
    let l = c.loop-run in
    let a = absorbed l.end c.max-end.result c.in-Some.run' l.rest c.remove_first.new.self c.in-Some.ensures c.max-end.ensures c.if-end-run.false l.invariant.runs c.remove_first.ensures.runs c.remove_first.ensures.ok in
    record {
      runs = c.remove_first.ensures.runs;
      ok = adds_same c.args.rest.now (with_prefix l.end l.rest) (with_prefix c.max-end.result c.remove_first.new.self) 0 c.args.first l.invariant.ok a.same;
    }

pub returns-then-end-run-clause-runs : goal.returns-then-end-run-clause-runs
returns-then-end-run-clause-runs c =
    let l = c.loop-run in
    next_above l.end c.in-Some.run' l.rest c.in-Some.ensures c.if-end-run.true l.invariant.runs

pub returns-clause-runs : goal.returns-clause-runs
returns-clause-runs c = none_left c.loop-run.end c.loop-run.rest c.in_default.ensures
