use Rattle.quic_worked.proofs.EndingMachines.{drained_not, drained_is_honest, no_drained}
use Rattle.quic_worked.proofs.ending.close_of_drained_shows.Goals as goal

pub returns : goal.returns
returns c = record { silent = drained_not; premises = drained_is_honest; machine = no_drained }
