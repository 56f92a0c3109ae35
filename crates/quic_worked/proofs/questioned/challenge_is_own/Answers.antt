use Rattle.quic_worked.proofs.QuestionedRun.{challenge_own}
use Rattle.quic_worked.proofs.questioned.challenge_is_own.Goals as goal

pub returns : goal.returns
returns c = challenge_own
