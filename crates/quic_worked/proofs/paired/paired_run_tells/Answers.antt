use Rattle.quic_worked.proofs.PairedRun.{took_pair}
use Rattle.quic_worked.proofs.paired.paired_run_tells.Goals as goal

pub returns-clause-took : goal.returns-clause-took
returns-clause-took c = took_pair
