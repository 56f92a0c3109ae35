use Rattle.quic_parameters.specs.ParametersLaw.{spelled_again}
use Rattle.quic_parameters.proofs.transport_parameters.laws.spelled_is_read.Goals as goal

pub returns : goal.returns
returns c = spelled_again
