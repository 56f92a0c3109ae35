use Rattle.quic_worked.proofs.LackingRuns.{timeout_refuted, timeout_is_honest, no_timeout}
use Rattle.quic_worked.proofs.lacking.idle_timeout_lacks.Goals as goal

pub returns : goal.returns
returns c = record { clause = timeout_refuted; premises = timeout_is_honest; machine = no_timeout }
