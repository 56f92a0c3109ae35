use Rattle.quic_worked.proofs.RestedRun.{is_owed, owes_at_rest, unanswered_is_honest, never_unanswered}
use Rattle.quic_worked.proofs.rested.unanswered_rest_shows.Goals as goal

pub returns : goal.returns
returns c = record { owes = is_owed; owed = owes_at_rest; honest = unanswered_is_honest; machine = never_unanswered }
