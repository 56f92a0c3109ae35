use Rattle.quic_worked.proofs.HastenedRuns.{probes_wait, probe_hastens}
use Rattle.quic_worked.proofs.hastened.probe_hastens.Goals as goal

pub returns : goal.returns
returns c = record { waiting = probes_wait; hastens = probe_hastens }
