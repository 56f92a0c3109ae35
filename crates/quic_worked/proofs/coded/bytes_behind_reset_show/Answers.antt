use Rattle.quic_worked.proofs.CodedRuns.{behind_not, behind_is_honest, never_behind}
use Rattle.quic_worked.proofs.coded.bytes_behind_reset_show.Goals as goal

pub returns : goal.returns
returns c = record { behind = behind_not; premises = behind_is_honest; machine = never_behind }
