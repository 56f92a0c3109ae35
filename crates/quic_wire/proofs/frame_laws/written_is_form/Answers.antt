use Rattle.quic_wire.proofs.FrameWritten.{spelling_form, stream_form, datagram_end_form}
use Rattle.quic_wire.proofs.frame_laws.written_is_form.Goals as goal

pub returns-clause-frame : goal.returns-clause-frame
returns-clause-frame c = spelling_form

pub returns-clause-stream : goal.returns-clause-stream
returns-clause-stream c = stream_form

pub returns-clause-datagram : goal.returns-clause-datagram
returns-clause-datagram c = datagram_end_form
