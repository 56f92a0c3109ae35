use Rattle.quic_worked.proofs.SmoothedRun.{smoothed_is_honest, undelayed_not, never_undelayed}
use Rattle.quic_worked.proofs.smoothed.kept_delay_shows.Goals as goal

pub returns : goal.returns
returns c = record { honest = smoothed_is_honest _ _; moments = undelayed_not; machine = never_undelayed }
