use Rattle.quic_worked.proofs.HeldRun.{two_wait, unprobed_passes, unprobed_is_honest, unprobed_is_none}
use Rattle.quic_worked.proofs.held.unprobed_shows.Goals as goal

pub returns : goal.returns
returns c = record { waits = two_wait; probes = unprobed_passes; premises = unprobed_is_honest; machine = unprobed_is_none }
