use Rattle.quic_worked.proofs.RaisedRun.{is_owed, forgets, never_forgotten}
use Rattle.quic_worked.proofs.raised.forgotten_limit_shows.Goals as goal

pub returns : goal.returns
returns c = record { owed = is_owed; duties = forgets; machine = never_forgotten }
