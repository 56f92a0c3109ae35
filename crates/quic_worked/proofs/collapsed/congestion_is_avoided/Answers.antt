use Rattle.std.proofs.Common.{refl}
use Rattle.quic_worked.proofs.collapsed.congestion_is_avoided.Goals as goal

pub returns : goal.returns
returns c = refl
