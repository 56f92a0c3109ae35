use Rattle.quic_worked.proofs.FaultRuns.{instead_accepts, instead_is_honest, instead_is_none}
use Rattle.quic_worked.proofs.faults.stream_is_opened_instead.Goals as goal

pub returns : goal.returns
returns c = record { accepts = instead_accepts; premises = instead_is_honest; machine = instead_is_none }
