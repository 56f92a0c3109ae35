use Rattle.quic_worked.proofs.MarkedRun.{echo_shows, due_shows, echo_is_honest, echo_is_none, never_due}
use Rattle.quic_worked.proofs.marked.endless_acknowledgements_show.Goals as goal

pub returns : goal.returns
returns c = record { waited = echo_shows; due = due_shows; honest = echo_is_honest; machine = echo_is_none; machine_due = never_due }
