use Rattle.quic_worked.proofs.EndingMachines.{keeps_not, keeps_is_honest, never_keeps}
use Rattle.quic_worked.proofs.ending.kept_loss_timer_shows.Goals as goal

pub returns : goal.returns
returns c = record { timers = keeps_not; premises = keeps_is_honest; machine = never_keeps }
