use Rattle.quic_worked.proofs.AnsweringRuns.{first_answered, second_answered, reads_right}
use Rattle.quic_worked.proofs.answering.reads_are_answered.Goals as goal

pub returns : goal.returns
returns c = record { first = first_answered; second = second_answered; right = reads_right }
