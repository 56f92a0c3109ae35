use Rattle.quic_worked.proofs.MarkedRun.{calm_is_honest, calm_is_run, ping_wants, acknowledged_wants, bare_wants, client_rests, server_rests}
use Rattle.quic_worked.proofs.marked.marked_acknowledgements_end.Goals as goal

pub returns : goal.returns
returns c = record { honest = calm_is_honest; run = calm_is_run; ping = ping_wants; acknowledged = acknowledged_wants; bare = bare_wants; client = client_rests; server = server_rests }
