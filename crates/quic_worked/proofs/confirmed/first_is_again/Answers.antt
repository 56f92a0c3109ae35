use Rattle.quic_worked.proofs.ConfirmedRun.{again_exact, again_is_honest, again_is_none}
use Rattle.quic_worked.proofs.confirmed.first_is_again.Goals as goal

pub returns : goal.returns
returns c = record { exact = again_exact; premises = again_is_honest; machine = again_is_none }
