use Rattle.quic_worked.proofs.ChunkedRun.{lost_shows, lost_honest, no_lost}
use Rattle.quic_worked.proofs.chunked.uncounted_buffer_shows.Goals as goal

pub returns : goal.returns
returns c = record { counted = lost_shows; premises = lost_honest; machine = no_lost }
