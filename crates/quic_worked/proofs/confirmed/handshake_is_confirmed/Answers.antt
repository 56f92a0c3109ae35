use Rattle.quic_worked.proofs.ConfirmedRun.{confirmed_is_honest, confirmed_is_run, confirmed_exact, confirmed_told, server_at_rest, said_at_rest, come_at_rest}
use Rattle.quic_worked.proofs.RestedRun.{have_room}
use Rattle.quic_worked.proofs.confirmed.handshake_is_confirmed.Goals as goal

pub returns : goal.returns
returns c = record { honest = confirmed_is_honest; run = confirmed_is_run; exact = confirmed_exact; told = confirmed_told; room = have_room; server = server_at_rest; said = said_at_rest; arrived = come_at_rest }
