use Rattle.quic_worked.proofs.ObeyingRuns.{probing_is_honest, probing_is_run, probe_said, before_probe, probe_hastens, probe_alone, probe_answered}
use Rattle.quic_worked.proofs.obeying.immediate_ack_hastens.Goals as goal

pub returns : goal.returns
returns c = record { honest = probing_is_honest; run = probing_is_run; said = probe_said; before = before_probe; due = probe_hastens; waiting = probe_alone; went = probe_answered }
