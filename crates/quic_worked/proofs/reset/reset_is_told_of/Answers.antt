use Rattle.quic_worked.proofs.ResetRun.{reset_is_honest, reset_is_run, reset_waits, reset_was_told}
use Rattle.quic_worked.proofs.reset.reset_is_told_of.Goals as goal

pub returns : goal.returns
returns c = record { honest = reset_is_honest; run = reset_is_run; waits = reset_waits; told = reset_was_told }
