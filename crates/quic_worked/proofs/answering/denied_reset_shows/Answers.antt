use Rattle.quic_worked.proofs.AnsweringRuns.{denied_shows, denied_honest, denied_is_none}
use Rattle.quic_worked.proofs.answering.denied_reset_shows.Goals as goal

pub returns : goal.returns
returns c = record { heeded = denied_shows; premises = denied_honest; machine = denied_is_none }
