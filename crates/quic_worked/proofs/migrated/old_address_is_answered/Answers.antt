use Rattle.quic_worked.proofs.MigratedMachines.{old_wrong, old_is_honest, old_is_none}
use Rattle.quic_worked.proofs.migrated.old_address_is_answered.Goals as goal

pub returns : goal.returns
returns c = record { goes = old_wrong; premises = old_is_honest; machine = old_is_none }
