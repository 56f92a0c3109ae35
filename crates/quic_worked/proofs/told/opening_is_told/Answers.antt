use Rattle.quic_worked.proofs.ToldRuns.{opening_is_honest, opening_is_run, opening_took, opening_heard}
use Rattle.quic_worked.proofs.told.opening_is_told.Goals as goal

pub returns : goal.returns
returns c = record { honest = opening_is_honest; run = opening_is_run; took = opening_took; heard = opening_heard }
