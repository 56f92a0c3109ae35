use Rattle.quic_wire_core.specs.TransportErrorLaw.{same_error_is}
use Rattle.quic_wire_core.proofs.laws.errors_are_code_and_frame.Goals as goal

pub returns : goal.returns
returns c = same_error_is
