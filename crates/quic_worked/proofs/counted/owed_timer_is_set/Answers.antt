use Rattle.quic_worked.proofs.CountedRuns.{set_owes, set_unwanted, single_set, set_is_honest, set_is_run}
use Rattle.quic_worked.proofs.counted.owed_timer_is_set.Goals as goal

pub returns : goal.returns
returns c = record { owed = set_owes; unwanted = set_unwanted; timers = single_set; honest = set_is_honest; run = set_is_run }
