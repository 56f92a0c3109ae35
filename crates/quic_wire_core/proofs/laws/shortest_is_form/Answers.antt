use Rattle.quic_wire_core.specs.Law.{shortest_spells}
use Rattle.quic_wire_core.proofs.laws.shortest_is_form.Goals as goal

pub returns : goal.returns
returns c = shortest_spells
