use Rattle.quic_worked.proofs.BurstingRuns.{over_then, rests_then, goes_not, restless_is_honest, restless_is_none}
use Rattle.quic_worked.proofs.bursting.restless_search_shows.Goals as goal

pub returns : goal.returns
returns c = record { over = over_then; rests = rests_then; clause = goes_not; premises = restless_is_honest; machine = restless_is_none }
