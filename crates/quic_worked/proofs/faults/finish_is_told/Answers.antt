use Rattle.quic_worked.proofs.FaultTimes.{told_is_honest, told_is_run}
use Rattle.quic_worked.proofs.faults.finish_is_told.Goals as goal

pub returns : goal.returns
returns c = record { honest = told_is_honest; run = told_is_run }
