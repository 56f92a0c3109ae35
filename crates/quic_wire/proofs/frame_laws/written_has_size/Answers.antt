use Rattle.quic_wire.proofs.FrameWritten.{spelling_length, stream_length, datagram_end_length}
use Rattle.quic_wire.proofs.frame_laws.written_has_size.Goals as goal

pub returns-clause-frame : goal.returns-clause-frame
returns-clause-frame c = spelling_length

pub returns-clause-stream : goal.returns-clause-stream
returns-clause-stream c = stream_length

pub returns-clause-datagram : goal.returns-clause-datagram
returns-clause-datagram c = datagram_end_length
