use Rattle.quic_parameters.specs.ParametersFound.{read_found}
use Rattle.quic_parameters.proofs.transport_parameters.laws.read_is_spelled.Goals as goal

pub returns : goal.returns
returns c = read_found
