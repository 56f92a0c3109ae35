use Rattle.quic_worked.proofs.QuestionedRun.{short_not, short_is_honest, short_is_none}
use Rattle.quic_worked.proofs.questioned.short_answer_shows.Goals as goal

pub returns : goal.returns
returns c = record { fills = short_not; premises = short_is_honest; machine = short_is_none }
