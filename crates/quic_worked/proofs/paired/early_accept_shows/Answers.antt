use Rattle.quic_worked.proofs.PairedMachines.{opens_before, accepts_early, no_early}
use Rattle.quic_worked.proofs.paired.early_accept_shows.Goals as goal

pub returns : goal.returns
returns c = record { right = opens_before; early = accepts_early; machine = no_early }
