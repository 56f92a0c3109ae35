use Rattle.quic_recovery_core.proofs.AckCounts.{asking_is, silent_is, greatest_is, acked_is, threshold_is, reordering_is}
use Rattle.quic_recovery_core.proofs.laws.pending_acks.counts_are_since_last_acknowledgement.Goals as goal

pub returns-clause-asking : goal.returns-clause-asking
returns-clause-asking c = asking_is

pub returns-clause-silent : goal.returns-clause-silent
returns-clause-silent c = silent_is

pub returns-clause-greatest : goal.returns-clause-greatest
returns-clause-greatest c = greatest_is

pub returns-clause-acked : goal.returns-clause-acked
returns-clause-acked c = acked_is

pub returns-clause-threshold : goal.returns-clause-threshold
returns-clause-threshold c = threshold_is

pub returns-clause-reordering : goal.returns-clause-reordering
returns-clause-reordering c = reordering_is
