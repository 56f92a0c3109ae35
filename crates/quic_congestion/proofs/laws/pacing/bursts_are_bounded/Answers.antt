use Rattle.quic_congestion.proofs.PacerLaws.{made, sent, delayed, bounds, last}
use Rattle.quic_congestion.proofs.laws.pacing.bursts_are_bounded.Goals as goal

pub returns-clause-made : goal.returns-clause-made
returns-clause-made c = made

pub returns-clause-sent : goal.returns-clause-sent
returns-clause-sent c = sent

pub returns-clause-asked : goal.returns-clause-asked
returns-clause-asked c = delayed

pub returns-clause-bounds : goal.returns-clause-bounds
returns-clause-bounds c = bounds

pub returns-clause-last : goal.returns-clause-last
returns-clause-last c = last
