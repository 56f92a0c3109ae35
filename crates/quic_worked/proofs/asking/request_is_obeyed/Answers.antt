use Rattle.quic_worked.proofs.AskingRuns.{owes_first, owes_none, owes_second, asked_acks, due_7, asked_losses}
use Rattle.quic_worked.proofs.asking.request_is_obeyed.Goals as goal

pub returns : goal.returns
returns c = record { first = owes_first; went = owes_none; second = owes_second; acks = asked_acks; due = due_7; losses = asked_losses }
