use Rattle.quic_sets.proofs.ElementSteps.{took_last}
use Rattle.quic_sets.proofs.range_set.elt_iter.take_last.Goals as goal

pub returns : goal.returns
returns c = took_last c.args.run.now c.next_back.new.self c.next_back.result c.next_back.ensures.steps
