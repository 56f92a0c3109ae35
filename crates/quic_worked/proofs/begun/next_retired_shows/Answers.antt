use Rattle.quic_worked.proofs.BegunRuns.{next_shows, never_next}
use Rattle.quic_worked.proofs.begun.next_retired_shows.Goals as goal

pub returns : goal.returns
returns c = record { retirement = next_shows; machine = never_next }
