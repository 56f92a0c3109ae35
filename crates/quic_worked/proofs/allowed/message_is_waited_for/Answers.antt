use Rattle.quic_worked.proofs.AllowedRun.{one_waits}
use Rattle.quic_worked.proofs.allowed.message_is_waited_for.Goals as goal

pub returns : goal.returns
returns c = record { waits = one_waits }
