use Rattle.quic_worked.proofs.SampledRun.{sampled_is_honest, sampled_is_run, sampled_due, sampled_moments, unsampled_not, unsampled_is_honest, never_unsampled}
use Rattle.quic_worked.proofs.timed.first_sample_counts.Goals as goal

pub returns : goal.returns
returns c = record { honest = sampled_is_honest; run = sampled_is_run; due = sampled_due; moments = sampled_moments; wrong = unsampled_not; wrong_honest = unsampled_is_honest; machine = never_unsampled }
