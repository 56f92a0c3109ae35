use Rattle.quic_worked.proofs.WrongRuns.{four_duties, never_four}
use Rattle.quic_worked.proofs.machines.buffer_keeps_four.Goals as goal

pub returns : goal.returns
returns c = record { duties = four_duties; machine = never_four }
