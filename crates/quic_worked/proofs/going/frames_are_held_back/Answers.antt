use Rattle.quic_worked.proofs.GoingRun.{going_is_honest, going_is_run, none_given, was_reset, reset_missing, was_stopped, no_size, stop_missing, next_used, retirement_missing, window_is_full}
use Rattle.quic_worked.proofs.going.frames_are_held_back.Goals as goal

pub returns : goal.returns
returns c = record { honest = going_is_honest; run = going_is_run; gave = none_given; is_reset = was_reset; reset_waits = reset_missing; is_stopped = was_stopped; no_size = no_size; stop_waits = stop_missing; used = next_used; retirement_waits = retirement_missing; full = window_is_full }
