use Rattle.std.proofs.Common.{refl}
use Rattle.quic_worked.proofs.CollapsedRun.{collapsed_is_honest, collapsed_is_run, told_so, collapsed_windows}
use Rattle.quic_worked.proofs.collapsed.congestion_persists.Goals as goal

pub returns : goal.returns
returns c = record { honest = collapsed_is_honest 2400; run = collapsed_is_run; told = told_so; reckoned = refl; clause = collapsed_windows }
