use Rattle.quic_worked.proofs.LackingRuns.{message_refuted, message_is_honest, no_message}
use Rattle.quic_worked.proofs.lacking.long_message_lacks.Goals as goal

pub returns : goal.returns
returns c = record { clause = message_refuted; premises = message_is_honest; machine = no_message }
