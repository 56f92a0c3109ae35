use Rattle.quic_worked.proofs.MigratedMachines.{never_wrong, never_is_honest, never_is_none}
use Rattle.quic_worked.proofs.migrated.peer_is_not_followed.Goals as goal

pub returns : goal.returns
returns c = record { changes = never_wrong; premises = never_is_honest; machine = never_is_none }
