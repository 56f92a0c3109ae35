use Rattle.quic_worked.proofs.PacedRun.{unheld_names, unheld_paces, unheld_is_none}
use Rattle.quic_worked.proofs.paced.unheld_datagram_shows.Goals as goal

pub returns : goal.returns
returns c = record { names = unheld_names; clause = unheld_paces; machine = unheld_is_none }
