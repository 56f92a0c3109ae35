use Rattle.quic_recovery_core.proofs.AckCauses.{runs_are, newest_is}
use Rattle.quic_recovery_core.proofs.laws.pending_acks.sets_are_of_their_changes.Goals as goal

pub returns-clause-runs : goal.returns-clause-runs
returns-clause-runs c = runs_are

pub returns-clause-newest : goal.returns-clause-newest
returns-clause-newest c = newest_is
