use Rattle.quic_worked.proofs.MessageRuns.{late_is_honest, late_is_run, none_waits, none_goes, late_once}
use Rattle.quic_worked.proofs.messages.late_message_comes_once.Goals as goal

pub returns-clause-honest : goal.returns-clause-honest
returns-clause-honest c = late_is_honest

pub returns-clause-run : goal.returns-clause-run
returns-clause-run c = late_is_run

pub returns-clause-lost : goal.returns-clause-lost
returns-clause-lost c = none_waits

pub returns-clause-silent : goal.returns-clause-silent
returns-clause-silent c = none_goes

pub returns-clause-once : goal.returns-clause-once
returns-clause-once c = late_once
