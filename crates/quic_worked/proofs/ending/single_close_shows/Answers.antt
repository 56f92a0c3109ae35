use Rattle.quic_worked.proofs.EndingMachines.{once_not, once_is_honest, no_once}
use Rattle.quic_worked.proofs.ending.single_close_shows.Goals as goal

pub returns : goal.returns
returns c = record { go = once_not; premises = once_is_honest; machine = no_once }
