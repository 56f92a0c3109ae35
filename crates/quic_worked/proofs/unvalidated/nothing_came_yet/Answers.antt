use Rattle.quic_worked.proofs.UnvalidatedRun.{unasked_wrong, unasked_is_honest, unasked_is_none}
use Rattle.quic_worked.proofs.unvalidated.nothing_came_yet.Goals as goal

pub returns : goal.returns
returns c = record { threefold = unasked_wrong; premises = unasked_is_honest; machine = unasked_is_none }
