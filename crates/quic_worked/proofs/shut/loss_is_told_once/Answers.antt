use Rattle.quic_worked.proofs.LossRuns.{losing_is_honest, losing_is_run, none_first, one_then, told_so}
use Rattle.quic_worked.proofs.shut.loss_is_told_once.Goals as goal

pub returns : goal.returns
returns c = record { honest = losing_is_honest; run = losing_is_run; first = none_first; second = one_then; told = told_so }
