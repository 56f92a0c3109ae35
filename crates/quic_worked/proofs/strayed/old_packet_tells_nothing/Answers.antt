use Rattle.quic_worked.proofs.StrayedRuns.{strayed_is_honest, strayed_is_run, strayed_stays, strayed_there, strayed_valid}
use Rattle.quic_worked.proofs.strayed.old_packet_tells_nothing.Goals as goal

pub returns : goal.returns
returns c = record { honest = strayed_is_honest; run = strayed_is_run; stays = strayed_stays; address = strayed_there; validated = strayed_valid }
