use Rattle.quic_worked.proofs.WorkedRun.{few_is_made, few_given}
use Rattle.quic_worked.proofs.worked.peer_may_keep_fewer.Goals as goal

pub returns-clause-made : goal.returns-clause-made
returns-clause-made c = few_is_made

pub returns-clause-size : goal.returns-clause-size
returns-clause-size c = few_given
