use Rattle.quic_worked.proofs.SmoothedRun.{smoothed_is_honest, shortened_not, never_shortened}
use Rattle.quic_worked.proofs.smoothed.first_delay_shows.Goals as goal

pub returns : goal.returns
returns c = record { honest = smoothed_is_honest _ _; moments = shortened_not; machine = never_shortened }
