use Rattle.quic_sets.proofs.RunLists.{maximal}
use Rattle.quic_sets.proofs.laws.runs_are_maximal.Goals as goal

pub returns : goal.returns
returns c = maximal
