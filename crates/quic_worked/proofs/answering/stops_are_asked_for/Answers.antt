use Rattle.quic_worked.proofs.AnsweringRuns.{stops_right}
use Rattle.quic_worked.proofs.answering.stops_are_asked_for.Goals as goal

pub returns : goal.returns
returns c = record { right = stops_right }
