use Rattle.quic_wire.specs.FrameView.{stream_view}
use Rattle.quic_wire.proofs.FrameWritten.{stream_written}
use Rattle.quic_wire.proofs.frame.writing.put_stream.Goals as goal

pub returns-clause-items : goal.returns-clause-items
returns-clause-items c =
    stream_written (stream_view c.args.stream.now) c.args.with_length c.args.out.now.items c.put_stream_header.new.out.items c.append.new.out.items
    c.put_stream_header.ensures.items c.append.ensures.items
