use Rattle.quic_congestion.proofs.SearchBetween.{begins_between, keeps_between, named_between}
use Rattle.quic_congestion.proofs.laws.mtud.sizes_stay_between.Goals as goal

pub returns-clause-begins : goal.returns-clause-begins
returns-clause-begins c = begins_between

pub returns-clause-keeps : goal.returns-clause-keeps
returns-clause-keeps c = keeps_between

pub returns-clause-named : goal.returns-clause-named
returns-clause-named c = named_between
