use Rattle.quic_worked.proofs.AvailableRun.{untold_not, untold_is_honest, no_untold}
use Rattle.quic_worked.proofs.available.untold_count_shows.Goals as goal

pub returns : goal.returns
returns c = record { told = untold_not; premises = untold_is_honest; machine = no_untold }
