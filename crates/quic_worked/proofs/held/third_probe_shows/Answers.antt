use Rattle.quic_worked.proofs.HeldRun.{none_waits, third_asks, third_is_honest, third_is_none}
use Rattle.quic_worked.proofs.held.third_probe_shows.Goals as goal

pub returns : goal.returns
returns c = record { none_waits = none_waits; asking = third_asks; premises = third_is_honest; machine = third_is_none }
