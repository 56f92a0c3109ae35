use Rattle.quic_worked.proofs.KeptId.{moves_on, keeps_wrong, keeps_is_honest, keeps_never}
use Rattle.quic_worked.proofs.migrated.old_id_is_kept.Goals as goal

pub returns : goal.returns
returns c = record { moves = moves_on; in_use = keeps_wrong; premises = keeps_is_honest; machine = keeps_never }
