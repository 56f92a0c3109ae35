use Rattle.quic_wire_core.specs.Law.{shortest_least}
use Rattle.quic_wire_core.proofs.laws.shortest_is_shortest.Goals as goal

pub returns : goal.returns
returns c = shortest_least
