use Rattle.quic_parameters.specs.ParametersLaw.{written_again}
use Rattle.quic_parameters.proofs.transport_parameters.laws.written_is_read.Goals as goal

pub returns : goal.returns
returns c = written_again
