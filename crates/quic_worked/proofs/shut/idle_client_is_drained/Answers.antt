use Rattle.quic_worked.proofs.ShutRuns.{idles_so}
use Rattle.quic_worked.proofs.shut.idle_client_is_drained.Goals as goal

pub returns : goal.returns
returns c = idles_so
