use Rattle.quic_worked.proofs.AnsweringRuns.{behind_honest, behind_is_run, behind_right}
use Rattle.quic_worked.proofs.answering.closed_client_opens_none.Goals as goal

pub returns : goal.returns
returns c = record { honest = behind_honest; run = behind_is_run; right = behind_right }
