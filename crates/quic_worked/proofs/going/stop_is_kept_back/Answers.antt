use Rattle.quic_worked.proofs.GoingRun.{stop_shows, stop_rests, stop_is_honest, stop_is_none}
use Rattle.quic_worked.proofs.going.stop_is_kept_back.Goals as goal

pub returns : goal.returns
returns c = record { control = stop_shows; rests = stop_rests; premises = stop_is_honest; machine = stop_is_none }
