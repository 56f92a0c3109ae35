use Rattle.quic_worked.proofs.CreditRuns.{count_is_run}
use Rattle.quic_worked.proofs.credit.count_is_raised.Goals as goal

pub returns : goal.returns
returns c = count_is_run
