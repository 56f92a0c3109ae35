use Rattle.quic_worked.proofs.MovedRuns.{late_wrong, late_is_honest}
use Rattle.quic_worked.proofs.LateRun.{late_never}
use Rattle.quic_worked.proofs.moved.old_answer_validates_new_address.Goals as goal

pub returns : goal.returns
returns c = record { validated = late_wrong; premises = late_is_honest; machine = late_never }
