use Rattle.quic_worked.proofs.AllowedRun.{reset_shows, reset_is_honest, reset_is_none}
use Rattle.quic_worked.proofs.allowed.closed_for_resets_shows.Goals as goal

pub returns : goal.returns
returns c = record { resets = reset_shows; honest = reset_is_honest; machine = reset_is_none }
