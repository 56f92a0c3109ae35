use Rattle.quic_worked.proofs.ArrivedRun.{forgotten_limit, stop_is_honest, stop_is_none}
use Rattle.quic_worked.proofs.arrived.forgotten_data_limit_shows.Goals as goal

pub returns : goal.returns
returns c = record { rest = forgotten_limit; premises = stop_is_honest; machine = stop_is_none }
