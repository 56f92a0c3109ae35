use Rattle.quic_worked.proofs.RenamedRuns.{early_shows, early_is_honest, early_is_none}
use Rattle.quic_worked.proofs.renamed.id_is_forgotten.Goals as goal

pub returns : goal.returns
returns c = record { unknown = early_shows; premises = early_is_honest; machine = early_is_none }
