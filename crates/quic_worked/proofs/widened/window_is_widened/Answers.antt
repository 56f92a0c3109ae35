use Rattle.quic_worked.proofs.WidenedRun.{widening_is_honest, widening_is_run, not_before, is_behind, told_so, widening_is_told}
use Rattle.quic_worked.proofs.widened.window_is_widened.Goals as goal

pub returns : goal.returns
returns c = record { honest = widening_is_honest; run = widening_is_run; before = not_before; behind = is_behind; told = told_so; clause = widening_is_told }
