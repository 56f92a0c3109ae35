use Rattle.quic_worked.proofs.BrokenClauses.{never_stops}
use Rattle.quic_worked.proofs.TimedEnds.{never_needless}
use Rattle.quic_worked.proofs.broken.needless_timer_shows.Goals as goal

pub returns : goal.returns
returns c = record { timers = never_stops; machine = never_needless }
