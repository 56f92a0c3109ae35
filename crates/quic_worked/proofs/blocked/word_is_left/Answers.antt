use Rattle.std.proofs.Common.{refl}
use Rattle.quic_worked.proofs.BlockedRun.{all_left, stream_left}
use Rattle.quic_worked.proofs.blocked.word_is_left.Goals as goal

pub returns : goal.returns
returns c = record { all = all_left; stream = stream_left; eight = refl; sixteen = refl; one = refl }
