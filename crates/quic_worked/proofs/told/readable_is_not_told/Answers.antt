use Rattle.quic_worked.proofs.ToldRuns.{readable_untold_shows, readable_untold_is_honest, no_readable_untold}
use Rattle.quic_worked.proofs.told.readable_is_not_told.Goals as goal

pub returns : goal.returns
returns c = record { told = readable_untold_shows; premises = readable_untold_is_honest; machine = no_readable_untold }
