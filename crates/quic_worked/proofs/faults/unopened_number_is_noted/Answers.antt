use Rattle.quic_worked.proofs.FaultRuns.{noted_takes, noted_is_honest, noted_is_none}
use Rattle.quic_worked.proofs.AgainRuns.{noted_drops}
use Rattle.quic_worked.proofs.faults.unopened_number_is_noted.Goals as goal

pub returns : goal.returns
returns c = record { taken = noted_takes; again = noted_drops; premises = noted_is_honest; machine = noted_is_none }
