use Rattle.quic_recovery_core.proofs.AckCounts.{threshold_due}
use Rattle.quic_recovery_core.proofs.laws.pending_acks.packets_above_the_threshold_are_due.Goals as goal

pub returns : goal.returns
returns c = threshold_due
