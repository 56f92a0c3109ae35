use Rattle.quic_worked.proofs.HalvedRun.{untold_not, untold_is_honest, untold_never}
use Rattle.quic_worked.proofs.halved.untold_loss_shows.Goals as goal

pub returns : goal.returns
returns c = record { clause = untold_not; premises = untold_is_honest; machine = untold_never }
