use Rattle.quic_recovery_core.proofs.AckCounts.{below_due, lacking_due}
use Rattle.quic_recovery_core.proofs.laws.pending_acks.packet_out_of_order_is_due.Goals as goal

pub returns-clause-below : goal.returns-clause-below
returns-clause-below c = below_due

pub returns-clause-gap : goal.returns-clause-gap
returns-clause-gap c = lacking_due
