use Rattle.quic_recovery_core.proofs.FrequencySteps.{received_old, received_again}
use Rattle.quic_recovery_core.proofs.laws.ack_frequency.frames_count_once.Goals as goal

pub returns-clause-old : goal.returns-clause-old
returns-clause-old c = λ f a. received_old f a

pub returns-clause-again : goal.returns-clause-again
returns-clause-again c = λ f a. received_again f a
