use Rattle.quic_recovery_core.proofs.FrequencySteps.{received_kept}
use Rattle.quic_recovery_core.proofs.laws.ack_frequency.own_delay_can_be_kept.Goals as goal

pub returns : goal.returns
returns c = λ f a le. received_kept f a le
