use Rattle.quic_worked.proofs.HeldRun.{seems_full, shrunk_window, shrunk_is_honest, shrunk_is_none}
use Rattle.quic_worked.proofs.held.shrunk_shows.Goals as goal

pub returns : goal.returns
returns c = record { full = seems_full; window = shrunk_window; premises = shrunk_is_honest; machine = shrunk_is_none }
