use Rattle.quic_worked.proofs.ArrivedRun.{forgotten_retirement, retirement_is_honest, retirement_is_none}
use Rattle.quic_worked.proofs.arrived.forgotten_retirement_shows.Goals as goal

pub returns : goal.returns
returns c = record { rest = forgotten_retirement; premises = retirement_is_honest; machine = retirement_is_none }
