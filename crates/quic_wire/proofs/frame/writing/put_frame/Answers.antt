use Rattle.quic_wire.specs.FrameView.{frame_view}
use Rattle.quic_wire.specs.Writing.{spelling, frame_size}
use Rattle.quic_wire.proofs.FrameWritten.{spelling_length}
use Rattle.quic_wire.proofs.Room.{longer, as_roomy}
use Rattle.quic_wire.proofs.frame.writing.put_frame.Goals as goal

pub returns-clause-len : goal.returns-clause-len
returns-clause-len c =
    let f = frame_view c.args.frame.now in
    longer c.args.out.now c.write_frame.new.buf (spelling f) _
    (rw c.unwrap.ensures at c.write_frame.ensures.ok) (spelling_length f c.requires.form)

pub returns-clause-capacity : goal.returns-clause-capacity
returns-clause-capacity c =
    as_roomy c.args.out.now c.write_frame.new.buf (frame_size (frame_view c.args.frame.now))
    (returns-clause-len c) c.requires.room (rw c.unwrap.ensures at c.write_frame.ensures.spare)
