use Rattle.quic_worked.proofs.GoingRun.{done_shows, done_is_honest, done_is_none}
use Rattle.quic_worked.proofs.going.done_is_kept_back.Goals as goal

pub returns : goal.returns
returns c = record { control = done_shows; premises = done_is_honest; machine = done_is_none }
