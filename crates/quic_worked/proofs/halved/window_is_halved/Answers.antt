use Rattle.quic_worked.proofs.HalvedRun.{halving_is_honest, halving_is_run, told_so, halving_is_told}
use Rattle.quic_worked.proofs.halved.window_is_halved.Goals as goal

pub returns : goal.returns
returns c = record { honest = halving_is_honest; run = halving_is_run; told = told_so; clause = halving_is_told }
