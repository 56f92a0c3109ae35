use Rattle.quic_worked.proofs.ObeyingRuns.{obeys_not, stale_is_honest, never_obeys}
use Rattle.quic_worked.proofs.obeying.stale_request_shows.Goals as goal

pub returns : goal.returns
returns c = record { moments = obeys_not; honest = stale_is_honest 200000000; machine = never_obeys }
