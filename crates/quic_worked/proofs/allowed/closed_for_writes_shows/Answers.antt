use Rattle.quic_worked.proofs.AllowedRun.{finish_shows, finish_is_honest, finish_is_none}
use Rattle.quic_worked.proofs.allowed.closed_for_writes_shows.Goals as goal

pub returns : goal.returns
returns c = record { writes = finish_shows; honest = finish_is_honest; machine = finish_is_none }
