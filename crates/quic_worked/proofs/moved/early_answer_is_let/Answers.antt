use Rattle.quic_worked.proofs.EarlyRun.{early_is_honest, early_is_run, changes_before, may_ask, asked_before, was_answered, not_before, is_behind}
use Rattle.quic_worked.proofs.moved.early_answer_is_let.Goals as goal

pub returns : goal.returns
returns c = record { honest = early_is_honest; run = early_is_run; changes = changes_before; renewed = may_ask; latest = asked_before; answered = was_answered; before = not_before; behind = is_behind }
