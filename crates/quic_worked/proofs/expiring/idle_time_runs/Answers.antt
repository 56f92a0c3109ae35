use Rattle.quic_worked.proofs.ExpiringRuns.{idle_until, idle_moments_so}
use Rattle.quic_worked.proofs.expiring.idle_time_runs.Goals as goal

pub returns : goal.returns
returns c = record { sent = idle_until; moments = idle_moments_so }
