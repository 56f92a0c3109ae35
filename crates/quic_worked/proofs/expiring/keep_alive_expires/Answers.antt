use Rattle.quic_worked.proofs.ExpiringRuns.{alive_is_honest, alive_is_run, alive_until, alive_over, alive_moments_so}
use Rattle.quic_worked.proofs.expiring.keep_alive_expires.Goals as goal

pub returns : goal.returns
returns c = record { honest = alive_is_honest; run = alive_is_run; sent = alive_until; over = alive_over; moments = alive_moments_so }
