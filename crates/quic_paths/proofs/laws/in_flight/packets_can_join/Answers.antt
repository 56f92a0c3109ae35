use Rattle.quic_paths.proofs.Flights.{can_join}
use Rattle.quic_paths.proofs.laws.in_flight.packets_can_join.Goals as goal

pub returns : goal.returns
returns c = can_join
