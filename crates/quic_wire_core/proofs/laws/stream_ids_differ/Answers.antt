use Rattle.quic_wire_core.specs.StreamIdLaw.{same_parts}
use Rattle.quic_wire_core.proofs.laws.stream_ids_differ.Goals as goal

pub returns : goal.returns
returns c = same_parts
