use Rattle.quic_worked.proofs.AnsweringRuns.{sends_right}
use Rattle.quic_worked.proofs.answering.short_message_is_taken.Goals as goal

pub returns : goal.returns
returns c = record { right = sends_right }
