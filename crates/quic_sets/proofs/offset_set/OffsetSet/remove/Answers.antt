use Rattle.quic_sets.proofs.Offsets.Loose.{runs_are}
use Rattle.quic_sets.proofs.offset_set.OffsetSet.remove.Goals as goal

pub returns-clause-runs : goal.returns-clause-runs
returns-clause-runs c = runs_are c.remove_range.new.spans.entries c.remove_range.ensures.maximal
