use Rattle.quic_worked.proofs.SkippedRun.{other_not, other_is_honest, other_is_none}
use Rattle.quic_worked.proofs.measured.other_number_shows.Goals as goal

pub returns : goal.returns
returns c = record { drawn = other_not; premises = other_is_honest; machine = other_is_none }
