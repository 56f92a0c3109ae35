use Rattle.quic_wire.proofs.WorkedForms.{limits_are_spelled}
use Rattle.quic_wire.proofs.worked.parameters_are_read.Goals as goal

pub returns-clause-spelled : goal.returns-clause-spelled
returns-clause-spelled c = limits_are_spelled
