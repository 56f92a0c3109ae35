use Rattle.quic_worked.proofs.ConfirmedRun.{done_is_owed, done_waits, done_has_cause, done_wanted, done_flies, has_come}
use Rattle.quic_worked.proofs.confirmed.done_is_owed.Goals as goal

pub returns : goal.returns
returns c = record { owed = done_is_owed; waits = done_waits; cause = done_has_cause; wanted = done_wanted; flies = done_flies; came = has_come }
