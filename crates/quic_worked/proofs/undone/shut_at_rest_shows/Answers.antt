use Rattle.quic_worked.proofs.UndoneRun.{client_shut, server_shut, shut_undone, shut_is_honest, shut_is_none}
use Rattle.quic_worked.proofs.undone.shut_at_rest_shows.Goals as goal

pub returns : goal.returns
returns c = record { client = client_shut; server = server_shut; undone = shut_undone; honest = shut_is_honest; machine = shut_is_none }
