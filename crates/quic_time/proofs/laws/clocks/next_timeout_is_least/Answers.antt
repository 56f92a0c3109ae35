use Rattle.quic_time.proofs.TimerLaws.{next_is_set, next_is_least}
use Rattle.quic_time.proofs.laws.clocks.next_timeout_is_least.Goals as goal

pub returns-clause-set : goal.returns-clause-set
returns-clause-set c = next_is_set

pub returns-clause-least : goal.returns-clause-least
returns-clause-least c = next_is_least
