use Rattle.quic_send_buffer.proofs.Buffered.Places.{ack_stays}
use Rattle.quic_send_buffer.proofs.laws.send_buffer.acknowledged_stays.Goals as goal

pub returns-clause-ack : goal.returns-clause-ack
returns-clause-ack c = ack_stays
