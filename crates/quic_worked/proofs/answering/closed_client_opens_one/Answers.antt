use Rattle.quic_worked.proofs.AnsweringRuns.{one_shows, one_honest, one_is_none}
use Rattle.quic_worked.proofs.answering.closed_client_opens_one.Goals as goal

pub returns : goal.returns
returns c = record { takes = one_shows; premises = one_honest; machine = one_is_none }
