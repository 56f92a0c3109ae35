use Rattle.quic_worked.proofs.MigratedMachines.{inherits_wrong, inherits_is_honest, inherits_is_none}
use Rattle.quic_worked.proofs.migrated.old_bytes_are_inherited.Goals as goal

pub returns : goal.returns
returns c = record { threefold = inherits_wrong; premises = inherits_is_honest; machine = inherits_is_none }
