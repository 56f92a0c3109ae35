use Rattle.quic_wire_core.specs.Law.{length-shortest}
use Rattle.quic_wire_core.proofs.laws.shortest_has_size.Goals as goal

pub returns : goal.returns
returns c = length-shortest
