use Rattle.quic_worked.proofs.LimitedRun.{narrow_say, keeps_told, told_thirteen, keeps_thirteen}
use Rattle.quic_worked.proofs.limited.limits_are_told.Goals as goal

pub returns : goal.returns
returns c = record { says = narrow_say; keeps = keeps_told; raised = told_thirteen; kept = keeps_thirteen }
