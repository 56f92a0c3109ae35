use Rattle.quic_recovery_core.proofs.AckLaws.{answered}
use Rattle.quic_recovery_core.proofs.laws.pending_acks.asking_packets_are_answered.Goals as goal

pub returns : goal.returns
returns c = answered
