use Rattle.quic_assembler.proofs.Calls.OneStep.{one_insertion}
use Rattle.quic_assembler.proofs.laws.insertion_is_one.Goals as goal

pub returns : goal.returns
returns c = one_insertion
