use Rattle.quic_worked.proofs.EndingMachines.{at_once_not, never_drains_not, at_once_is_honest, never_drains_is_honest, never_at_once, never_for_ever}
use Rattle.quic_worked.proofs.ending.wrong_drains_show.Goals as goal

pub returns : goal.returns
returns c = record { early = at_once_not; never = never_drains_not; early_premises = at_once_is_honest; never_premises = never_drains_is_honest; machine_early = never_at_once; machine_never = never_for_ever }
