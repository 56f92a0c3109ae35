use Rattle.std.proofs.Common.{◌≡◌, length}
use Rattle.quic_parameters.specs.ParametersRead.{met_in, none_met}
use Rattle.quic_parameters.proofs.transport_parameters.reading.met_of.Given as goal

abbrev pub invariant-loop-rest : goal.invariant-loop-rest
invariant-loop-rest l = met_in l.met l.rest ≡ met_in none_met l.bytes

abbrev pub decreases-loop-rest : goal.decreases-loop-rest
decreases-loop-rest l = length l.rest
