use Rattle.quic_worked.proofs.FaultTimes.{hello_is_told}
use Rattle.quic_worked.proofs.faults.first_number_is_told.Goals as goal

pub returns : goal.returns
returns c = hello_is_told
