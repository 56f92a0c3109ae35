use Rattle.quic_worked.proofs.RenamedRuns.{retired_shows, retired_is_honest, retired_is_none}
use Rattle.quic_worked.proofs.renamed.retired_id_is_used.Goals as goal

pub returns : goal.returns
returns c = record { issued = retired_shows; premises = retired_is_honest; machine = retired_is_none }
