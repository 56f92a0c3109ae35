use Rattle.quic_assembler.proofs.Arrived.Runs.{runs_counted}
use Rattle.quic_assembler.proofs.laws.runs_are_maximal.Goals as goal

pub returns : goal.returns
returns c = λ a n h m. runs_counted a.read a.parts n h.apart m
