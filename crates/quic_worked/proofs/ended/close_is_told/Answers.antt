use Rattle.quic_worked.proofs.EndedRuns.{closing_is_honest, closing_is_run, client_shows, was_closed, server_shows, had_closed}
use Rattle.quic_worked.proofs.ended.close_is_told.Goals as goal

pub returns : goal.returns
returns c = record { honest = closing_is_honest; run = closing_is_run; client = client_shows; called = was_closed; server = server_shows; closed = had_closed }
