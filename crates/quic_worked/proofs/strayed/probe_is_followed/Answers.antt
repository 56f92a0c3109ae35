use Rattle.quic_worked.proofs.StrayedRuns.{probe_wrong, probe_is_honest, probe_never}
use Rattle.quic_worked.proofs.strayed.probe_is_followed.Goals as goal

pub returns : goal.returns
returns c = record { changes = probe_wrong; premises = probe_is_honest; machine = probe_never }
