use Rattle.quic_worked.proofs.ResetRun.{reset_untold_shows, reset_untold_is_honest, no_reset_untold}
use Rattle.quic_worked.proofs.reset.reset_is_not_told_of.Goals as goal

pub returns : goal.returns
returns c = record { told = reset_untold_shows; premises = reset_untold_is_honest; machine = no_reset_untold }
