use Rattle.quic_worked.proofs.KeptEnds.{runs_not, ids_not}
use Rattle.quic_worked.proofs.kept.kept_numbers_show.Goals as goal

pub returns : goal.returns
returns c = record { numbers = runs_not; ids = ids_not }
