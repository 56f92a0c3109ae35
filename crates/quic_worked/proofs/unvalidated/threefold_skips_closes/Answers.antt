use Rattle.quic_worked.proofs.UnvalidatedRun.{close_wrong, close_is_honest, close_is_none}
use Rattle.quic_worked.proofs.unvalidated.threefold_skips_closes.Goals as goal

pub returns : goal.returns
returns c = record { threefold = close_wrong; premises = close_is_honest; machine = close_is_none }
