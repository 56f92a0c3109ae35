use Rattle.std.proofs.Common.{◌≡◌, arith, ap, ◌∙◌}
use Rattle.std.proofs.lemmas.Grind.{common_steps}
use Rattle.quic_parameters.specs.ParametersRead.{parameters_at}
use Rattle.quic_parameters.specs.ParametersWritten.{written_parameters}
use Rattle.quic_parameters.specs.ParametersLaw.{written_again}
use Rattle.quic_parameters.proofs.transport_parameters.TransportParameters.write.Goals as goal

pub returns-clause-read_back : goal.returns-clause-read_back
returns-clause-read_back c =
    let is : c.loop-place.bytes.items ≡ written_parameters c.args.self.now c.args.order.now = grind (arith, common_steps) in
    λ most. ap parameters_at is ∙ written_again c.args.self.now c.args.order.now c.requires most
