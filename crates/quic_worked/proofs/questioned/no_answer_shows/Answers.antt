use Rattle.quic_worked.proofs.QuestionedRun.{pings_not, never_not, pings_is_honest, never_is_honest, pings_is_none, never_is_none}
use Rattle.quic_worked.proofs.questioned.no_answer_shows.Goals as goal

pub returns : goal.returns
returns c = record { ping = pings_not; never = never_not; ping_premises = pings_is_honest; never_premises = never_is_honest; machine_ping = pings_is_none; machine_never = never_is_none }
