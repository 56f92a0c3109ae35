use Rattle.quic_worked.proofs.FaultTimes.{message_is_there, kept_gave, kept_held, kept_is_honest, kept_is_none}
use Rattle.quic_worked.proofs.faults.message_is_kept.Goals as goal

pub returns : goal.returns
returns c = record { waits = message_is_there; gave = kept_gave; held = kept_held; premises = kept_is_honest; machine = kept_is_none }
