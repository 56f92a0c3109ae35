use Rattle.std.proofs.Common.{◌≡◌, ◌++◌, drop}
use Rattle.quic_parameters.specs.ParametersWritten.{written_parameters}
use Rattle.quic_parameters.proofs.transport_parameters.TransportParameters.write.Given as goal

abbrev pub invariant-loop-place : goal.invariant-loop-place
invariant-loop-place l = l.bytes.items ++ written_parameters l.self (drop l.place-index l.order) ≡ written_parameters l.self l.order
