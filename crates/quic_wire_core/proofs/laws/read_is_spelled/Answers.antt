use Rattle.quic_wire_core.specs.Law.{varint_found}
use Rattle.quic_wire_core.proofs.laws.read_is_spelled.Goals as goal

pub returns : goal.returns
returns c = varint_found
