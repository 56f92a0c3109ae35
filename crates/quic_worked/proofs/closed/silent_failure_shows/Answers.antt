use Rattle.quic_worked.proofs.SilentEnd.{fails_wrongly, never_failing}
use Rattle.quic_worked.proofs.closed.silent_failure_shows.Goals as goal

pub returns : goal.returns
returns c = record { failure = fails_wrongly; machine = never_failing }
