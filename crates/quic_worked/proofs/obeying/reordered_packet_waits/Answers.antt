use Rattle.quic_worked.proofs.EarlyAcks.{early_is_honest, early_is_run, not_due, not_wanted, early_shows, acks_is_honest, acks_is_none}
use Rattle.quic_worked.proofs.obeying.reordered_packet_waits.Goals as goal

pub returns : goal.returns
returns c = record { honest = early_is_honest; run = early_is_run; due = not_due; wanted = not_wanted; waited = early_shows; early_honest = acks_is_honest; machine = acks_is_none }
