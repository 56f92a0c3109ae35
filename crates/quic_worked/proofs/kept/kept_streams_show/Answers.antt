use Rattle.quic_worked.proofs.KeptEnds.{stream_not, total_not, streams_not}
use Rattle.quic_worked.proofs.kept.kept_streams_show.Goals as goal

pub returns : goal.returns
returns c = record { stream = stream_not; total = total_not; streams = streams_not }
