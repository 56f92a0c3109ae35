use Rattle.quic_worked.proofs.CollapsedRun.{collapsed_is_honest, single_not, single_never}
use Rattle.quic_worked.proofs.collapsed.single_datagram_shows.Goals as goal

pub returns : goal.returns
returns c = record { clause = single_not; premises = collapsed_is_honest 1200; machine = single_never }
