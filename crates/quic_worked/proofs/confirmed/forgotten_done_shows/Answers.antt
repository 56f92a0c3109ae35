use Rattle.quic_worked.proofs.ConfirmedRun.{forgotten_shows, forgetting_shows, forgotten_is_honest, forgotten_is_none, never_forgetting}
use Rattle.quic_worked.proofs.confirmed.forgotten_done_shows.Goals as goal

pub returns : goal.returns
returns c = record { rest = forgotten_shows; duties = forgetting_shows; premises = forgotten_is_honest; machine = forgotten_is_none; machine_duties = never_forgetting }
