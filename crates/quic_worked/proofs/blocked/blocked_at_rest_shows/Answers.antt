use Rattle.quic_worked.proofs.BlockedRun.{client_rests, server_rests, blocked_unread, blocked_is_honest, blocked_is_none}
use Rattle.quic_worked.proofs.blocked.blocked_at_rest_shows.Goals as goal

pub returns : goal.returns
returns c = record { client = client_rests; server = server_rests; unread = blocked_unread; honest = blocked_is_honest; machine = blocked_is_none }
