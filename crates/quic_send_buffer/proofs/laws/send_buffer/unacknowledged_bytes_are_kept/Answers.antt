use Rattle.quic_send_buffer.proofs.Buffered.Places.{write_byte, ack_byte}
use Rattle.quic_send_buffer.proofs.laws.send_buffer.unacknowledged_bytes_are_kept.Goals as goal

pub returns-clause-written : goal.returns-clause-written
returns-clause-written c = write_byte

pub returns-clause-ack : goal.returns-clause-ack
returns-clause-ack c = ack_byte
