use Rattle.quic_recovery_core.proofs.AckLaws.{numbers, added, stand_runs, stand_few}
use Rattle.quic_recovery_core.proofs.laws.pending_acks.numbers_wait_until_they_go.Goals as goal

pub returns-clause-numbers : goal.returns-clause-numbers
returns-clause-numbers c = numbers

pub returns-clause-added : goal.returns-clause-added
returns-clause-added c = added

pub returns-clause-runs : goal.returns-clause-runs
returns-clause-runs c = stand_runs

pub returns-clause-few : goal.returns-clause-few
returns-clause-few c = stand_few
