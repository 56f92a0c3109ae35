use Rattle.quic_recovery_core.proofs.AckCauses.{due_for_a_cause}
use Rattle.quic_recovery_core.proofs.laws.pending_acks.acknowledgements_are_due_for_a_cause.Goals as goal

pub returns : goal.returns
returns c = due_for_a_cause
