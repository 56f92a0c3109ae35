use Rattle.quic_worked.proofs.KnownRuns.{forgetful_is_run, known_wrong, opens_wrong, never_forgetful}
use Rattle.quic_worked.proofs.known.forgets_a_told_id.Goals as goal

pub returns : goal.returns
returns c = record { run = forgetful_is_run; known = known_wrong; opens = opens_wrong; machine = never_forgetful }
