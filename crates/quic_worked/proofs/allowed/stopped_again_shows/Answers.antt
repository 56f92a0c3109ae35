use Rattle.quic_worked.proofs.AllowedRun.{again_shows, again_is_honest, again_is_none}
use Rattle.quic_worked.proofs.allowed.stopped_again_shows.Goals as goal

pub returns : goal.returns
returns c = record { over = again_shows; honest = again_is_honest; machine = again_is_none }
