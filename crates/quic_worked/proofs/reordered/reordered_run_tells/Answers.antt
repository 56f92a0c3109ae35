use Rattle.quic_worked.proofs.ReorderedRun.{took_both}
use Rattle.quic_worked.proofs.reordered.reordered_run_tells.Goals as goal

pub returns-clause-took : goal.returns-clause-took
returns-clause-took c = took_both
