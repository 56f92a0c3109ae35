use Rattle.quic_wire_core.specs.StreamIdLaw.{initiator_of_stream_id, dir_of_stream_id, index_of_stream_id, stream_id_of_parts}
use Rattle.quic_wire_core.proofs.laws.stream_ids_have_parts.Goals as goal

pub returns-clause-sides : goal.returns-clause-sides
returns-clause-sides c = initiator_of_stream_id

pub returns-clause-dirs : goal.returns-clause-dirs
returns-clause-dirs c = dir_of_stream_id

pub returns-clause-indices : goal.returns-clause-indices
returns-clause-indices c = index_of_stream_id

pub returns-clause-whole : goal.returns-clause-whole
returns-clause-whole c = stream_id_of_parts
