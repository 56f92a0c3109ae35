use Rattle.quic_worked.proofs.MigratedMachines.{close_wrong, close_is_honest, close_is_none}
use Rattle.quic_worked.proofs.migrated.close_goes_to_old_address.Goals as goal

pub returns : goal.returns
returns c = record { goes = close_wrong; premises = close_is_honest; machine = close_is_none }
