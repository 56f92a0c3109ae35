use Rattle.quic_worked.proofs.BrokenClauses.{never_sets}
use Rattle.quic_worked.proofs.TimedEnds.{never_untimed}
use Rattle.quic_worked.proofs.broken.missing_timer_shows.Goals as goal

pub returns : goal.returns
returns c = record { timers = never_sets; machine = never_untimed }
