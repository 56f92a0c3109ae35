use Rattle.quic_worked.proofs.FaultTimes.{waits_is_honest, waits_is_run, waits_gave, waits_still, waits_full}
use Rattle.quic_worked.proofs.faults.message_is_held_back.Goals as goal

pub returns : goal.returns
returns c = record { honest = waits_is_honest; run = waits_is_run; gave = waits_gave; waits = waits_still; full = waits_full }
