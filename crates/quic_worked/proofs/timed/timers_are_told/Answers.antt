use Rattle.quic_worked.proofs.AskedTimers.{asking_is_run, tells_timers, hides_timer, hides_next, no_timer, no_next}
use Rattle.quic_worked.proofs.timed.timers_are_told.Goals as goal

pub returns : goal.returns
returns c = record { run = asking_is_run; told = tells_timers; timer = hides_timer; next = hides_next; timer_machine = no_timer; next_machine = no_next }
