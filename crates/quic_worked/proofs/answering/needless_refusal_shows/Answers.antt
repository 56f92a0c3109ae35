use Rattle.quic_worked.proofs.AnsweringRuns.{short_shows, short_honest, short_is_none}
use Rattle.quic_worked.proofs.answering.needless_refusal_shows.Goals as goal

pub returns : goal.returns
returns c = record { refused = short_shows; premises = short_honest; machine = short_is_none }
