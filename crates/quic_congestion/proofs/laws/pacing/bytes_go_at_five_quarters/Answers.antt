use Rattle.quic_congestion.proofs.PacerRate.{rate, let_go}
use Rattle.quic_congestion.proofs.laws.pacing.bytes_go_at_five_quarters.Goals as goal

pub returns-clause-rate : goal.returns-clause-rate
returns-clause-rate c = rate

pub returns-clause-let_go : goal.returns-clause-let_go
returns-clause-let_go c = let_go
