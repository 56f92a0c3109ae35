use Rattle.quic_congestion.proofs.RenoHistories.{slow_start, slow_start_ends}
use Rattle.quic_congestion.proofs.laws.congestion.slow_start_adds_what_is_acknowledged.Goals as goal

pub returns-clause-below : goal.returns-clause-below
returns-clause-below c = slow_start

pub returns-clause-last : goal.returns-clause-last
returns-clause-last c = slow_start_ends
