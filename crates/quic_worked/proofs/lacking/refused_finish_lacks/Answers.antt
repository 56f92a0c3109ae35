use Rattle.quic_worked.proofs.LackingRuns.{finish_refuted, finish_is_honest, no_finish}
use Rattle.quic_worked.proofs.lacking.refused_finish_lacks.Goals as goal

pub returns : goal.returns
returns c = record { clause = finish_refuted; premises = finish_is_honest; machine = no_finish }
