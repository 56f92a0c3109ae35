use Rattle.quic_worked.proofs.EndedRuns.{application_wrong, peer_wrong, idle_wrong, key_wrong, drains_is_honest, drains_is_none}
use Rattle.quic_worked.proofs.ended.needless_ends_show.Goals as goal

pub returns : goal.returns
returns c = record { application = application_wrong; peer = peer_wrong; idle = idle_wrong; key = key_wrong; premises = drains_is_honest; machine = drains_is_none }
