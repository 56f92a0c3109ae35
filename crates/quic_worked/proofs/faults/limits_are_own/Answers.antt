use Rattle.quic_worked.proofs.FaultRuns.{own_writes, own_blames, own_closes, own_is_honest, own_is_none}
use Rattle.quic_worked.proofs.faults.limits_are_own.Goals as goal

pub returns : goal.returns
returns c = record { writes = own_writes; blame = own_blames; closes = own_closes; premises = own_is_honest; machine = own_is_none }
