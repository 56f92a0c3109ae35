use Rattle.quic_sets.proofs.RunLists.{same_list}
use Rattle.quic_sets.proofs.laws.runs_are_their_numbers.Goals as goal

pub returns : goal.returns
returns c = same_list 0 0
