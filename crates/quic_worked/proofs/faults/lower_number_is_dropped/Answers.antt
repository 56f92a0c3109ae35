use Rattle.quic_worked.proofs.FaultRuns.{below_takes, below_is_honest, below_is_none}
use Rattle.quic_worked.proofs.AgainRuns.{below_drops}
use Rattle.quic_worked.proofs.faults.lower_number_is_dropped.Goals as goal

pub returns : goal.returns
returns c = record { taken = below_takes; again = below_drops; premises = below_is_honest; machine = below_is_none }
