use Rattle.quic_worked.proofs.EndingMachines.{peer_not, peer_is_honest, never_other}
use Rattle.quic_worked.proofs.ending.wrong_peer_close_shows.Goals as goal

pub returns : goal.returns
returns c = record { came = peer_not; premises = peer_is_honest; machine = never_other }
