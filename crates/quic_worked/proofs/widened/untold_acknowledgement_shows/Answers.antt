use Rattle.quic_worked.proofs.WidenedRun.{unwidened_not, unwidened_is_honest, unwidened_never}
use Rattle.quic_worked.proofs.widened.untold_acknowledgement_shows.Goals as goal

pub returns : goal.returns
returns c = record { clause = unwidened_not; premises = unwidened_is_honest; machine = unwidened_never }
