use Rattle.quic_worked.proofs.HeldRun.{silent_sends, silent_is_honest, silent_is_none}
use Rattle.quic_worked.proofs.held.silent_shows.Goals as goal

pub returns : goal.returns
returns c = record { polls = silent_sends; premises = silent_is_honest; machine = silent_is_none }
