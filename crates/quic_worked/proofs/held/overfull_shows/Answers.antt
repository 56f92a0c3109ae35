use Rattle.quic_worked.proofs.HeldRun.{overfull_asks, overfull_is_honest, overfull_is_none}
use Rattle.quic_worked.proofs.held.overfull_shows.Goals as goal

pub returns : goal.returns
returns c = record { asking = overfull_asks; premises = overfull_is_honest; machine = overfull_is_none }
