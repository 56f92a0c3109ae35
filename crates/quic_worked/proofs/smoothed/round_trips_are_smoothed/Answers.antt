use Rattle.quic_worked.proofs.SmoothedRun.{smoothed_is_honest, smoothed_is_run, none_measured, one_measured, two_measured, due_1, due_7, due_13, smoothed_moments}
use Rattle.quic_worked.proofs.smoothed.round_trips_are_smoothed.Goals as goal

pub returns : goal.returns
returns c = record { honest = smoothed_is_honest _ _; run = smoothed_is_run; assumed = none_measured; first = one_measured; second = two_measured; due_first = due_1; due_second = due_7; due_third = due_13; moments = smoothed_moments }
