use Rattle.quic_worked.proofs.AllowedRun.{late_is_honest, late_is_run, late_arrived, late_kept}
use Rattle.quic_worked.proofs.allowed.late_reset_is_allowed.Goals as goal

pub returns : goal.returns
returns c = record { honest = late_is_honest; run = late_is_run; arrived = late_arrived; kept = late_kept }
