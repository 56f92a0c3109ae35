use Rattle.quic_worked.proofs.CountedRuns.{both_came, moved_not, moved_is_honest, never_moved}
use Rattle.quic_worked.proofs.counted.moved_timer_shows.Goals as goal

pub returns : goal.returns
returns c = record { deadlines = both_came; moments = moved_not; honest = moved_is_honest; machine = never_moved }
