use Rattle.quic_worked.proofs.UndoneRun.{client_kept_back, server_kept_back, kept_back_undone, kept_back_is_honest, kept_back_is_none}
use Rattle.quic_worked.proofs.undone.kept_back_at_rest_shows.Goals as goal

pub returns : goal.returns
returns c = record { client = client_kept_back; server = server_kept_back; undone = kept_back_undone; honest = kept_back_is_honest; machine = kept_back_is_none }
