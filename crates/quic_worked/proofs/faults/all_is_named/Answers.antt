use Rattle.quic_worked.proofs.FaultTimes.{quiet_is_named, quiet_is_honest, quiet_is_run}
use Rattle.quic_worked.proofs.faults.all_is_named.Goals as goal

pub returns : goal.returns
returns c = record { named = quiet_is_named; honest = quiet_is_honest; run = quiet_is_run }
