use Rattle.quic_worked.proofs.CreditRuns.{no_never_opened}
use Rattle.quic_worked.proofs.OpeningRuns.{untaken_not, untaken_is_honest}
use Rattle.quic_worked.proofs.credit.untaken_count_shows.Goals as goal

pub returns : goal.returns
returns c = record { opening = untaken_not; premises = untaken_is_honest; machine = no_never_opened }
