use Rattle.quic_parameters.specs.ParametersLaw.{written_spells}
use Rattle.quic_parameters.proofs.transport_parameters.laws.written_is_spelled.Goals as goal

pub returns : goal.returns
returns c = written_spells
