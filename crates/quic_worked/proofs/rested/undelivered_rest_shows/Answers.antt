use Rattle.quic_worked.proofs.RestedRun.{kept_delivers, forgotten_delivers, kept_is_honest, forgotten_is_honest, kept_is_none, forgotten_is_none}
use Rattle.quic_worked.proofs.rested.undelivered_rest_shows.Goals as goal

pub returns : goal.returns
returns c = record { kept = kept_delivers; forgotten = forgotten_delivers; kept_honest = kept_is_honest; forgotten_honest = forgotten_is_honest; machine_kept = kept_is_none; machine_forgotten = forgotten_is_none }
