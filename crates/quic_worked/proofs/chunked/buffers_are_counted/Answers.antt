use Rattle.quic_worked.proofs.ChunkedRun.{counted_right}
use Rattle.quic_worked.proofs.chunked.buffers_are_counted.Goals as goal

pub returns : goal.returns
returns c = record { right = counted_right }
