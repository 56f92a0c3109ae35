use Rattle.quic_worked.proofs.WrongAcks.{no_silence}
use Rattle.quic_worked.proofs.BrokenClauses.{tells_never}
use Rattle.quic_worked.proofs.machines.acknowledged_end_is_lost.Goals as goal

pub returns : goal.returns
returns c = record { told = tells_never; machine = no_silence }
