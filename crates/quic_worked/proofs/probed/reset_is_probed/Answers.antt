use Rattle.quic_worked.proofs.ProbedRun.{probed_is_honest, probed_is_run, two_probes, one_probe, both_wait, both_fly, probed_tracks, due_6, due_7, probed_moments}
use Rattle.quic_worked.proofs.probed.reset_is_probed.Goals as goal

pub returns : goal.returns
returns c = record { honest = probed_is_honest; run = probed_is_run; probes = two_probes; one_left = one_probe; waits = both_wait; flies = both_fly; tracks = probed_tracks; expired = due_6; due = due_7; moments = probed_moments }
