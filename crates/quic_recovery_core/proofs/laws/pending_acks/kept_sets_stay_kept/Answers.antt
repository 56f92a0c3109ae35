use Rattle.quic_recovery_core.proofs.AckRunSteps.{at_most_kept, kept_numbers}
use Rattle.quic_recovery_core.proofs.laws.pending_acks.kept_sets_stay_kept.Goals as goal

pub returns-clause-kept : goal.returns-clause-kept
returns-clause-kept c = λ p n now kept small. at_most_kept p.runs n kept small

pub returns-clause-numbers : goal.returns-clause-numbers
returns-clause-numbers c = λ p n now k kept h. kept_numbers p.runs n k kept.runs h
