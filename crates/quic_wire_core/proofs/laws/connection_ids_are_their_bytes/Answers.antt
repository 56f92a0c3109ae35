use Rattle.quic_wire_core.specs.ConnectionId.{id_cmp_equal}
use Rattle.quic_wire_core.proofs.laws.connection_ids_are_their_bytes.Goals as goal

pub returns-clause-cmp : goal.returns-clause-cmp
returns-clause-cmp c = id_cmp_equal
