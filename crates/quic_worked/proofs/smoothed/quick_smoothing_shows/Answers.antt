use Rattle.quic_worked.proofs.SmoothedRun.{smoothed_is_honest, hasty_not, never_hasty}
use Rattle.quic_worked.proofs.smoothed.quick_smoothing_shows.Goals as goal

pub returns : goal.returns
returns c = record { honest = smoothed_is_honest _ _; moments = hasty_not; machine = never_hasty }
