use Rattle.quic_worked.proofs.MessageRuns.{message_is_honest, message_is_run, message_took, message_once}
use Rattle.quic_worked.proofs.messages.message_comes_once.Goals as goal

pub returns-clause-honest : goal.returns-clause-honest
returns-clause-honest c = message_is_honest

pub returns-clause-run : goal.returns-clause-run
returns-clause-run c = message_is_run

pub returns-clause-took : goal.returns-clause-took
returns-clause-took c = message_took

pub returns-clause-once : goal.returns-clause-once
returns-clause-once c = message_once
