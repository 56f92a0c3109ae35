use Rattle.quic_sets.proofs.ElementSteps.{took_first}
use Rattle.quic_sets.proofs.range_set.elt_iter.take_first.Goals as goal

pub returns : goal.returns
returns c = took_first c.args.run.now c.next.new.self c.next.result c.next.ensures.steps
