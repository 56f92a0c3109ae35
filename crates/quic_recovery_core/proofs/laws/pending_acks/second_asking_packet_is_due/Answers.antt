use Rattle.quic_recovery_core.proofs.AckCounts.{due_is}
use Rattle.quic_recovery_core.proofs.laws.pending_acks.second_asking_packet_is_due.Goals as goal

pub returns : goal.returns
returns c = due_is
