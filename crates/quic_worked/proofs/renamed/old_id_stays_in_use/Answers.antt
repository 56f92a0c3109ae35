use Rattle.quic_worked.proofs.RenamedRuns.{old_shows, old_is_issued, old_is_honest, old_is_none}
use Rattle.quic_worked.proofs.renamed.old_id_stays_in_use.Goals as goal

pub returns : goal.returns
returns c = record { in_use = old_shows; issued = old_is_issued; premises = old_is_honest; machine = old_is_none }
