use Rattle.quic_worked.proofs.MeasuredRun.{measured_is_run, rtt_is, four_wait, two_wait, timer_is, none_waits, two_fly, none_flies, due_9, due_10, due_11, measured_moments}
use Rattle.quic_worked.proofs.measured.datagrams_are_late.Goals as goal

pub returns : goal.returns
returns c = record { run = measured_is_run; rtt = rtt_is; sent = four_wait; by_number = two_wait; timer = timer_is; by_time = none_waits; flies = two_fly; flies_no_more = none_flies; due_before = due_9; due = due_10; due_no_more = due_11; moments = measured_moments }
