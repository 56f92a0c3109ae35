use Rattle.quic_worked.proofs.HeldRun.{grown_size, grown_is_honest, grown_is_none}
use Rattle.quic_worked.proofs.held.grown_shows.Goals as goal

pub returns : goal.returns
returns c = record { size = grown_size; premises = grown_is_honest; machine = grown_is_none }
