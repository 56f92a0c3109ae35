use Rattle.quic_recovery_core.proofs.AckLaws.{newest}
use Rattle.quic_recovery_core.proofs.laws.pending_acks.delay_is_of_greatest.Goals as goal

pub returns : goal.returns
returns c = newest
