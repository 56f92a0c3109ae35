use Rattle.quic_worked.proofs.ShutRuns.{idles_on_not, idles_on_is_honest, never_idles_on}
use Rattle.quic_worked.proofs.shut.kept_idle_client_shows.Goals as goal

pub returns : goal.returns
returns c = record { idle = idles_on_not; premises = idles_on_is_honest; machine = never_idles_on }
