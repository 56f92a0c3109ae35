use Rattle.std.proofs.Common.{true, refl}
use Rattle.quic_worked.specs.Worked.{waiting_view}
use Rattle.quic_worked.proofs.AnsweredRun.{answered_is_run, with_is_honest}
use Rattle.quic_worked.proofs.QuestionedRun.{was_asked, is_newest, is_none, responses_answer, path_frames_fill}
use Rattle.quic_worked.proofs.questioned.challenge_is_answered.Goals as goal

pub returns : goal.returns
returns c = record {
  honest = with_is_honest true waiting_view;
  run = answered_is_run;
  asked = was_asked;
  answers = refl;
  newest = is_newest;
  fills = refl;
  none = is_none;
  responses = responses_answer;
  filled = path_frames_fill;
}
