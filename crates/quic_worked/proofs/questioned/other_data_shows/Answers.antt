use Rattle.quic_worked.proofs.QuestionedRun.{other_not, other_is_honest, other_is_none}
use Rattle.quic_worked.proofs.questioned.other_data_shows.Goals as goal

pub returns : goal.returns
returns c = record { responses = other_not; premises = other_is_honest; machine = other_is_none }
