use Rattle.quic_worked.proofs.ElsewhereRun.{elsewhere_wrong, elsewhere_is_honest, never_elsewhere}
use Rattle.quic_worked.proofs.elsewhere.old_address_validates_new_one.Goals as goal

pub returns : goal.returns
returns c = record { validated = elsewhere_wrong; premises = elsewhere_is_honest; machine = never_elsewhere }
