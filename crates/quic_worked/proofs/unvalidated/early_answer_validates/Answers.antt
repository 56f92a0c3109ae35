use Rattle.quic_worked.proofs.AnsweredRun.{early_wrong, early_is_honest, early_is_none}
use Rattle.quic_worked.proofs.unvalidated.early_answer_validates.Goals as goal

pub returns : goal.returns
returns c = record { early = early_wrong; premises = early_is_honest; machine = early_is_none }
