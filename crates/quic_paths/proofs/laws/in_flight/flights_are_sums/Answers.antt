use Rattle.quic_paths.proofs.Flights.{sums, parted}
use Rattle.quic_paths.proofs.laws.in_flight.flights_are_sums.Goals as goal

pub returns-clause-calls : goal.returns-clause-calls
returns-clause-calls c = sums

pub returns-clause-less : goal.returns-clause-less
returns-clause-less c = parted
