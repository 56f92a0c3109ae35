use Rattle.quic_paths.proofs.Flights.{can_leave, one_can_leave}
use Rattle.quic_paths.proofs.laws.in_flight.packets_can_leave.Goals as goal

pub returns-clause-calls : goal.returns-clause-calls
returns-clause-calls c = can_leave

pub returns-clause-each : goal.returns-clause-each
returns-clause-each c = one_can_leave
