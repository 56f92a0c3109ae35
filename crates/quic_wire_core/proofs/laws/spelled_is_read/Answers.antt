use Rattle.quic_wire_core.specs.Law.{spells_again}
use Rattle.quic_wire_core.proofs.laws.spelled_is_read.Goals as goal

pub returns : goal.returns
returns c = spells_again
