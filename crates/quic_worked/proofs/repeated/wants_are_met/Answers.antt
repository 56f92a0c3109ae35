use Rattle.quic_worked.proofs.RepeatedRuns.{ping_asked, ping_gone, none_came, both_came, both_named, limit_unsaid, limit_said, not_challenged, then_challenged, not_answered, then_answered}
use Rattle.quic_worked.proofs.repeated.wants_are_met.Goals as goal

pub returns : goal.returns
returns c = record {
  asked = ping_asked;
  pinged = ping_gone;
  before = none_came;
  came = both_came;
  acknowledged = both_named;
  unsaid = limit_unsaid;
  said = limit_said;
  unchallenged = not_challenged;
  challenged = then_challenged;
  unanswered = not_answered;
  answered = then_answered;
}
