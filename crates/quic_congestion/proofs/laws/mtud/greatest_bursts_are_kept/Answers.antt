use Rattle.quic_congestion.proofs.KeptBursts.{four_at_most, kept_descending, placed_descending, placed_counted}
use Rattle.quic_congestion.proofs.laws.mtud.greatest_bursts_are_kept.Goals as goal

pub returns-clause-four : goal.returns-clause-four
returns-clause-four c = four_at_most

pub returns-clause-order : goal.returns-clause-order
returns-clause-order c = kept_descending

pub returns-clause-placed : goal.returns-clause-placed
returns-clause-placed c = placed_descending

pub returns-clause-sizes : goal.returns-clause-sizes
returns-clause-sizes c = placed_counted
