use Rattle.quic_recovery_core.proofs.AckCauses.{began}
use Rattle.quic_recovery_core.proofs.laws.pending_acks.waits_began_with_a_packet.Goals as goal

pub returns : goal.returns
returns c = began
