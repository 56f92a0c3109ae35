use Rattle.quic_wire.proofs.WorkedForms.{three_fewest}
use Rattle.quic_wire.proofs.worked.numbers_are_cut.Goals as goal

pub returns-clause-three_fewest : goal.returns-clause-three_fewest
returns-clause-three_fewest c = three_fewest
