use Rattle.quic_worked.proofs.AnsweringRuns.{reset_came, resets_right}
use Rattle.quic_worked.proofs.answering.resets_are_shown.Goals as goal

pub returns : goal.returns
returns c = record { came = reset_came; right = resets_right }
