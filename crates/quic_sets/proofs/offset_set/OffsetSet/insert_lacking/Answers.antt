use Rattle.quic_sets.proofs.Offsets.Loose.{runs_are}
use Rattle.quic_sets.proofs.offset_set.OffsetSet.insert_lacking.Goals as goal

pub returns-clause-runs : goal.returns-clause-runs
returns-clause-runs c = runs_are c.insert_lacking.new.spans.entries c.insert_lacking.ensures.maximal
