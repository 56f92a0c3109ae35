use Rattle.quic_worked.proofs.OpeningRuns.{opens_so}
use Rattle.quic_worked.proofs.credit.streams_open_while_counts_last.Goals as goal

pub returns : goal.returns
returns c = opens_so
