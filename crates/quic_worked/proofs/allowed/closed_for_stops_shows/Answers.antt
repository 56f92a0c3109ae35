use Rattle.quic_worked.proofs.AllowedRun.{stop_shows, stop_is_honest, stop_is_none}
use Rattle.quic_worked.proofs.allowed.closed_for_stops_shows.Goals as goal

pub returns : goal.returns
returns c = record { reads = stop_shows; honest = stop_is_honest; machine = stop_is_none }
