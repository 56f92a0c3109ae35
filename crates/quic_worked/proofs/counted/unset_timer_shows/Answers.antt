use Rattle.quic_worked.proofs.CountedRuns.{unset_owes, unset_unwanted, unset_not, unset_is_honest, never_unset}
use Rattle.quic_worked.proofs.counted.unset_timer_shows.Goals as goal

pub returns : goal.returns
returns c = record { owed = unset_owes; unwanted = unset_unwanted; timers = unset_not; honest = unset_is_honest; machine = never_unset }
