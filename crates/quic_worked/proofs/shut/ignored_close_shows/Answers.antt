use Rattle.quic_worked.proofs.ShutRuns.{ignores_close_not, other_peer_not, ignores_close_is_honest, never_ignores_close}
use Rattle.quic_worked.proofs.shut.ignored_close_shows.Goals as goal

pub returns : goal.returns
returns c = record { peer = ignores_close_not; other = other_peer_not; premises = ignores_close_is_honest; machine = never_ignores_close }
