use Rattle.quic_worked.proofs.HeldRun.{resized_size, resized_is_honest, resized_is_none}
use Rattle.quic_worked.proofs.held.resized_shows.Goals as goal

pub returns : goal.returns
returns c = record { size = resized_size; premises = resized_is_honest; machine = resized_is_none }
