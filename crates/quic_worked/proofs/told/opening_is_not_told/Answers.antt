use Rattle.quic_worked.proofs.ToldRuns.{opening_untold_shows, opening_untold_is_honest, no_opening_untold}
use Rattle.quic_worked.proofs.told.opening_is_not_told.Goals as goal

pub returns : goal.returns
returns c = record { told = opening_untold_shows; premises = opening_untold_is_honest; machine = no_opening_untold }
