use Rattle.quic_worked.proofs.ToldRuns.{message_waits, message_was_told}
use Rattle.quic_worked.proofs.told.message_is_told_of.Goals as goal

pub returns : goal.returns
returns c = record { waits = message_waits; told = message_was_told }
