use Rattle.quic_sets.proofs.Offsets.Loose.{runs_are}
use Rattle.quic_sets.proofs.offset_set.OffsetSet.insert_from.Goals as goal

pub returns-clause-runs : goal.returns-clause-runs
returns-clause-runs c = runs_are c.insert_from.new.spans.entries c.insert_from.ensures.maximal

pub returns-clause-other_runs : goal.returns-clause-other_runs
returns-clause-other_runs c = runs_are c.insert_from.new.others.entries c.insert_from.ensures.others_maximal
