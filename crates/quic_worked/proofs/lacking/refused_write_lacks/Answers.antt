use Rattle.quic_worked.proofs.LackingRuns.{write_refuted, write_is_honest, no_write}
use Rattle.quic_worked.proofs.lacking.refused_write_lacks.Goals as goal

pub returns : goal.returns
returns c = record { clause = write_refuted; premises = write_is_honest; machine = no_write }
