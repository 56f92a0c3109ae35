use Rattle.quic_worked.proofs.ShutRuns.{stays_open_not, stays_open_is_honest, never_stays_open}
use Rattle.quic_worked.proofs.shut.unheeded_application_shows.Goals as goal

pub returns : goal.returns
returns c = record { application = stays_open_not; premises = stays_open_is_honest; machine = never_stays_open }
