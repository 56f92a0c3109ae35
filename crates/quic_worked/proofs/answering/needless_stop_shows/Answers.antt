use Rattle.quic_worked.proofs.AnsweringRuns.{needless_shows, needless_honest, needless_is_none}
use Rattle.quic_worked.proofs.answering.needless_stop_shows.Goals as goal

pub returns : goal.returns
returns c = record { asked = needless_shows; premises = needless_honest; machine = needless_is_none }
