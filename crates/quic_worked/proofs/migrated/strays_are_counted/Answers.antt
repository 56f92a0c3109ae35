use Rattle.quic_worked.proofs.MigratedMachines.{strays_wrong, strays_is_honest, strays_is_none}
use Rattle.quic_worked.proofs.migrated.strays_are_counted.Goals as goal

pub returns : goal.returns
returns c = record { threefold = strays_wrong; premises = strays_is_honest; machine = strays_is_none }
