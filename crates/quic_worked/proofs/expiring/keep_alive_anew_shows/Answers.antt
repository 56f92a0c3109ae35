use Rattle.quic_worked.proofs.ExpiringRuns.{alive_anew_not, never_shows_anew}
use Rattle.quic_worked.proofs.expiring.keep_alive_anew_shows.Goals as goal

pub returns : goal.returns
returns c = record { moments = alive_anew_not; machine = never_shows_anew }
