use Rattle.quic_worked.proofs.ExpiringRuns.{idle_anew_not}
use Rattle.quic_worked.proofs.IsolatedRuns.{anew_is_honest, no_anew}
use Rattle.quic_worked.proofs.expiring.idle_time_anew_shows.Goals as goal

pub returns : goal.returns
returns c = record { moments = idle_anew_not; premises = anew_is_honest; machine = no_anew }
