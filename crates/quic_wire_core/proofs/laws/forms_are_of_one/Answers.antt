use Rattle.quic_wire_core.specs.Law.{spells_once}
use Rattle.quic_wire_core.proofs.laws.forms_are_of_one.Goals as goal

pub returns : goal.returns
returns c = spells_once
