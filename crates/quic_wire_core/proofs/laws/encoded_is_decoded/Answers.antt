use Rattle.quic_wire_core.specs.Law.{shortest_again, fixed_again_8, fixed_again_16, fixed_again_32, fixed_again_64}
use Rattle.quic_wire_core.proofs.laws.encoded_is_decoded.Goals as goal

pub returns-clause-varint : goal.returns-clause-varint
returns-clause-varint c = shortest_again

pub returns-clause-stream_id : goal.returns-clause-stream_id
returns-clause-stream_id c = shortest_again

pub returns-clause-frame_type : goal.returns-clause-frame_type
returns-clause-frame_type c = shortest_again

pub returns-clause-code : goal.returns-clause-code
returns-clause-code c = shortest_again

pub returns-clause-byte : goal.returns-clause-byte
returns-clause-byte c = fixed_again_8

pub returns-clause-two_bytes : goal.returns-clause-two_bytes
returns-clause-two_bytes c = fixed_again_16

pub returns-clause-four_bytes : goal.returns-clause-four_bytes
returns-clause-four_bytes c = fixed_again_32

pub returns-clause-eight_bytes : goal.returns-clause-eight_bytes
returns-clause-eight_bytes c = fixed_again_64
