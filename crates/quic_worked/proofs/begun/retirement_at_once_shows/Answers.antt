use Rattle.quic_worked.proofs.BegunRuns.{at_once_shows, never_at_once}
use Rattle.quic_worked.proofs.begun.retirement_at_once_shows.Goals as goal

pub returns : goal.returns
returns c = record { retirement = at_once_shows; machine = never_at_once }
