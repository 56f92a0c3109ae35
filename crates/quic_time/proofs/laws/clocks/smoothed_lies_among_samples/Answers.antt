use Rattle.quic_time.proofs.RttLaws.{smoothed_least, smoothed_most, var_most}
use Rattle.quic_time.proofs.laws.clocks.smoothed_lies_among_samples.Goals as goal

pub returns-clause-least : goal.returns-clause-least
returns-clause-least c = smoothed_least

pub returns-clause-most : goal.returns-clause-most
returns-clause-most c = smoothed_most

pub returns-clause-varies : goal.returns-clause-varies
returns-clause-varies c = var_most
