use Rattle.quic_worked.proofs.DrawnRun.{again_not, again_is_honest, never_again}
use Rattle.quic_worked.proofs.drawn.token_again_shows.Goals as goal

pub returns : goal.returns
returns c = record { drawn = again_not; premises = again_is_honest; machine = never_again }
