use Rattle.quic_worked.proofs.GoingRun.{reset_shows, reset_rests, reset_is_honest, reset_is_none}
use Rattle.quic_worked.proofs.going.reset_is_kept_back.Goals as goal

pub returns : goal.returns
returns c = record { control = reset_shows; rests = reset_rests; premises = reset_is_honest; machine = reset_is_none }
