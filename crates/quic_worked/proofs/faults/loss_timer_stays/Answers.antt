use Rattle.quic_worked.proofs.FaultTimes.{stays_quiet, stays_is_honest, never_stays}
use Rattle.quic_worked.proofs.faults.loss_timer_stays.Goals as goal

pub returns : goal.returns
returns c = record { quiet = stays_quiet; premises = stays_is_honest; machine = never_stays }
