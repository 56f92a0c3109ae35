use Rattle.quic_congestion.proofs.SearchSizes.{sizes_new, sizes_disabled}
use Rattle.quic_congestion.proofs.laws.mtud.sizes_are_known.Goals as goal

pub returns-clause-searched : goal.returns-clause-searched
returns-clause-searched c = sizes_new

pub returns-clause-disabled : goal.returns-clause-disabled
returns-clause-disabled c = sizes_disabled
