use Rattle.quic_worked.proofs.StrayedRuns.{probing_is_honest, probing_is_run, probing_came, probing_stays, probing_there}
use Rattle.quic_worked.proofs.strayed.probe_tells_nothing.Goals as goal

pub returns : goal.returns
returns c = record { honest = probing_is_honest; run = probing_is_run; came = probing_came; stays = probing_stays; address = probing_there }
