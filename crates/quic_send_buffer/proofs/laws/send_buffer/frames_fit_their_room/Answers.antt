use Rattle.quic_wire_core.specs.Law.{varint_size_le}
use Rattle.quic_send_buffer.proofs.laws.send_buffer.frames_fit_their_room.Goals as goal

pub returns-clause-length : goal.returns-clause-length
returns-clause-length c = varint_size_le
