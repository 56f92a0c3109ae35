use Rattle.quic_sets.proofs.Offsets.Prefix.{prefix_runs, stay_above}
use Rattle.quic_sets.proofs.prefix_set.PrefixSet.insert_from.Goals as goal

pub invariant_of-self : goal.invariant_of-self
invariant_of-self c =
    let v = c.self.inside in
    let i = c.insert_from.ensures in
    stay_above c.insert_from.result v.first_lacking c.args.x.start c.args.x.end v.rest c.insert_from.new.self c.if-self-x.true c.self.invariant i.runs i.ok i.err

pub returns-then-self-x-clause-runs : goal.returns-then-self-x-clause-runs
returns-then-self-x-clause-runs c = prefix_runs c.self.inside.first_lacking c.insert_from.new.self (invariant_of-self c)

pub returns-in_err-remove-clause-runs : goal.returns-in_err-remove-clause-runs
returns-in_err-remove-clause-runs c =
    let v = c.self.inside in
    rw (← c.self.view_is) (prefix_runs v.first_lacking v.rest c.self.invariant)
