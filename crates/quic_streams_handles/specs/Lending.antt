-- What the chunks of a stream borrow.
use Rattle.std.specs.Borrow.{GName}
use Rattle.quic_streams_handles.specs.declared.recv_stream.Chunks.{Chunks}

-- the streams that chunks borrow
abbrev pub chunks_lender : Chunks → GName
chunks_lender c = c.streams.ghost_name
