use Rattle.std.proofs.Common.{refl}
use Rattle.quic_worked.proofs.UndoneRun.{one_left}
use Rattle.quic_worked.proofs.undone.stream_is_left.Goals as goal

pub returns : goal.returns
returns c = record { undone = one_left; hundred = refl }
