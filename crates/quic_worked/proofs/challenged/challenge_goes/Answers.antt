use Rattle.quic_worked.proofs.ChallengedRun.{far_due, far_asked, far_challenges}
use Rattle.quic_worked.proofs.challenged.challenge_goes.Goals as goal

pub returns : goal.returns
returns c = record { due = far_due; asked = far_asked; challenges = far_challenges }
