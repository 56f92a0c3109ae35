use Rattle.quic_worked.proofs.AnsweringRuns.{close_right}
use Rattle.quic_worked.proofs.answering.close_goes_alone.Goals as goal

pub returns : goal.returns
returns c = record { right = close_right }
