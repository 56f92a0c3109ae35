use Rattle.quic_worked.proofs.LackingRuns.{injection_refuted, injection_is_honest, no_injection}
use Rattle.quic_worked.proofs.lacking.failed_injection_lacks.Goals as goal

pub returns : goal.returns
returns c = record { clause = injection_refuted; premises = injection_is_honest; machine = no_injection }
