use Rattle.quic_worked.proofs.KeptEnds.{nothing_not, datagram_lets, dropped_not, again_not, lost_not}
use Rattle.quic_worked.proofs.kept.told_too_often_shows.Goals as goal

pub returns : goal.returns
returns c = record { nothing = nothing_not; came = datagram_lets; dropped = dropped_not; again = again_not; lost = lost_not }
