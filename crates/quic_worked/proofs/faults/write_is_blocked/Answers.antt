use Rattle.quic_worked.proofs.FaultRuns.{blocked_writes, blocked_is_honest, blocked_is_none}
use Rattle.quic_worked.proofs.faults.write_is_blocked.Goals as goal

pub returns : goal.returns
returns c = record { writes = blocked_writes; premises = blocked_is_honest; machine = blocked_is_none }
