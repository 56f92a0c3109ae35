use Rattle.quic_worked.proofs.AnsweredRun.{unanswered_wrong, old_wrong, late_wrong, unanswered_is_honest, old_is_honest, late_is_honest, unanswered_is_none, old_is_none, late_is_none}
use Rattle.quic_worked.proofs.unvalidated.old_answer_validates.Goals as goal

pub returns : goal.returns
returns c = record {
  none = unanswered_wrong;
  old = old_wrong;
  late = late_wrong;
  none_premises = unanswered_is_honest;
  old_premises = old_is_honest;
  late_premises = late_is_honest;
  machine_none = unanswered_is_none;
  machine_old = old_is_none;
  machine_late = late_is_none;
}
