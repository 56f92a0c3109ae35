use Rattle.quic_worked.proofs.AvailableRun.{available_is_run, told_so}
use Rattle.quic_worked.proofs.available.more_may_be_opened.Goals as goal

pub returns : goal.returns
returns c = record { run = available_is_run; told = told_so }
