use Rattle.std.proofs.Common.{true}
use Rattle.quic_worked.specs.Worked.{waiting_view}
use Rattle.quic_worked.proofs.AnsweredRun.{answered_is_run, with_is_honest, not_before, is_behind, was_answered, are_words, not_renewed, answer_came, is_latest}
use Rattle.quic_worked.proofs.unvalidated.answer_validates.Goals as goal

pub returns : goal.returns
returns c = record {
  honest = with_is_honest true waiting_view;
  run = answered_is_run;
  before = not_before;
  behind = is_behind;
  answered = was_answered;
  words = are_words true waiting_view;
  kept = not_renewed true waiting_view;
  came = answer_came true waiting_view;
  latest = is_latest true waiting_view;
}
