use Rattle.quic_congestion.proofs.SizedSearch.{sized_first, keeps_sized, named_sized, named_bounded, sized_acked}
use Rattle.quic_congestion.proofs.laws.mtud.sizes_stay_within_limits.Goals as goal

pub returns-clause-first : goal.returns-clause-first
returns-clause-first c = sized_first

pub returns-clause-keeps : goal.returns-clause-keeps
returns-clause-keeps c = keeps_sized

pub returns-clause-named : goal.returns-clause-named
returns-clause-named c = named_sized

pub returns-clause-bounded : goal.returns-clause-bounded
returns-clause-bounded c = named_bounded

pub returns-clause-grows : goal.returns-clause-grows
returns-clause-grows c least most number length d h = (sized_acked least most number length d h).1
