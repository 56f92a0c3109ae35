use Rattle.quic_worked.proofs.SilentEnd.{last_explains, drains_wrongly, never_silent}
use Rattle.quic_worked.proofs.closed.silent_end_shows.Goals as goal

pub returns : goal.returns
returns c = record { meets = last_explains; reasons = drains_wrongly; machine = never_silent }
