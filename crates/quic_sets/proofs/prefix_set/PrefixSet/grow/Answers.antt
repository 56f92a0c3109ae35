use Rattle.std.proofs.Common.{◌+◌, arith}
use Rattle.quic_sets.proofs.RunLists.{lower}
use Rattle.quic_sets.proofs.Offsets.Prefix.{prefix_runs, grown}
use Rattle.quic_sets.proofs.prefix_set.PrefixSet.grow.Goals as goal

pub absorb-self-inside-requires : goal.absorb-self-inside-requires
absorb-self-inside-requires c =
    let v = c.self.inside in
    lower (v.first_lacking + 1) 0 v.rest (omega arith) c.self.invariant

pub returns-clause-ok : goal.returns-clause-ok
returns-clause-ok c =
    let v = c.self.inside in
    let absorb = c.absorb-self-inside in
    rw (← c.self.view_is) (grown v.first_lacking absorb.result c.args.end c.max.result v.rest absorb.new.rest c.max.ensures absorb.ensures.ok)

pub returns-clause-runs : goal.returns-clause-runs
returns-clause-runs c = let absorb = c.absorb-self-inside in prefix_runs absorb.result absorb.new.rest absorb.ensures.runs
