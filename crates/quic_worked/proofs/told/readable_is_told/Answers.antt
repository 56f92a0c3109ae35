use Rattle.quic_worked.proofs.ToldRuns.{readable_is_honest, readable_is_run, rest_waits, rest_was_told}
use Rattle.quic_worked.proofs.told.readable_is_told.Goals as goal

pub returns : goal.returns
returns c = record { honest = readable_is_honest; run = readable_is_run; waits = rest_waits; told = rest_was_told }
