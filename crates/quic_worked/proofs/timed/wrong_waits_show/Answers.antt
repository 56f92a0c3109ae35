use Rattle.quic_worked.proofs.TimedRun.{backs_off_not, resets_not, measures_not, never_shows_same, never_shows_long, never_shows_early}
use Rattle.quic_worked.proofs.timed.wrong_waits_show.Goals as goal

pub returns : goal.returns
returns c = record { backs_off = backs_off_not; resets = resets_not; measures = measures_not; machine_backs_off = never_shows_same; machine_resets = never_shows_long; machine_measures = never_shows_early }
