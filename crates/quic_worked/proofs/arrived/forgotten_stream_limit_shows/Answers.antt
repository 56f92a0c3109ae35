use Rattle.quic_worked.proofs.LimitArrivedRun.{dropped_shows, dropped_is_honest, dropped_is_none}
use Rattle.quic_worked.proofs.arrived.forgotten_stream_limit_shows.Goals as goal

pub returns : goal.returns
returns c = record { rest = dropped_shows; premises = dropped_is_honest; machine = dropped_is_none }
