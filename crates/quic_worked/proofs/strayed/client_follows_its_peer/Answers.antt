use Rattle.quic_worked.proofs.StrayedRuns.{follows_wrong, follows_is_honest, follows_is_none}
use Rattle.quic_worked.proofs.strayed.client_follows_its_peer.Goals as goal

pub returns : goal.returns
returns c = record { drops = follows_wrong; premises = follows_is_honest; machine = follows_is_none }
