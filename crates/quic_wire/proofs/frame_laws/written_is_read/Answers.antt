use Rattle.quic_wire.proofs.FrameReadBack.{padded_read, last_read, last_datagram_read}
use Rattle.quic_wire.proofs.frame_laws.written_is_read.Goals as goal

pub returns-clause-padded : goal.returns-clause-padded
returns-clause-padded c = padded_read

pub returns-clause-last : goal.returns-clause-last
returns-clause-last c = last_read

pub returns-clause-last_datagram : goal.returns-clause-last_datagram
returns-clause-last_datagram c = last_datagram_read
