use Rattle.quic_worked.proofs.ProbedRun.{datagram_tracks, datagram_leads}
use Rattle.quic_worked.proofs.probed.probed_datagram_is_dropped.Goals as goal

pub returns : goal.returns
returns c = record { tracks = datagram_tracks; machine = datagram_leads }
