use Rattle.quic_worked.proofs.ArrivedRun.{forgotten_reset, reset_is_honest, reset_is_none}
use Rattle.quic_worked.proofs.arrived.forgotten_reset_shows.Goals as goal

pub returns : goal.returns
returns c = record { rest = forgotten_reset; premises = reset_is_honest; machine = reset_is_none }
