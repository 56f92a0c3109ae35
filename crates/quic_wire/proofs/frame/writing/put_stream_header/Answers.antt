use Rattle.quic_wire.specs.FrameView.{stream_view}
use Rattle.quic_wire.specs.Writing.{header_of, some_if, stream_header_size}
use Rattle.quic_wire.proofs.FrameWritten.{header_length}
use Rattle.quic_wire.proofs.Room.{longer, as_roomy}
use Rattle.quic_wire.proofs.frame.writing.put_stream_header.Goals as goal

pub returns-clause-len : goal.returns-clause-len
returns-clause-len c =
    let s = stream_view c.args.stream.now in
    longer c.args.out.now c.write_stream_header.new.buf (header_of c.args.with_length s c.args.length) _
    (rw c.unwrap.ensures at c.write_stream_header.ensures.ok) (header_length s c.args.with_length c.args.length)

pub returns-clause-capacity : goal.returns-clause-capacity
returns-clause-capacity c =
    as_roomy c.args.out.now c.write_stream_header.new.buf (stream_header_size c.args.stream.now.id c.args.stream.now.offset (some_if c.args.with_length c.args.length))
    (returns-clause-len c) c.requires.room (rw c.unwrap.ensures at c.write_stream_header.ensures.spare)
