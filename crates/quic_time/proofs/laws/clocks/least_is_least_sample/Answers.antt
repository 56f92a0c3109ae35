use Rattle.quic_time.proofs.RttLaws.{least_is_one, least_is_least}
use Rattle.quic_time.proofs.laws.clocks.least_is_least_sample.Goals as goal

pub returns-clause-one : goal.returns-clause-one
returns-clause-one c = least_is_one

pub returns-clause-least : goal.returns-clause-least
returns-clause-least c = least_is_least
