use Rattle.quic_worked.proofs.QuestionedRun.{zeros_not, zeros_is_honest, never_zeros}
use Rattle.quic_worked.proofs.questioned.zero_challenge_shows.Goals as goal

pub returns : goal.returns
returns c = record { challenge = zeros_not; premises = zeros_is_honest; machine = never_zeros }
