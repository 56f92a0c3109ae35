use Rattle.std.proofs.Common.{sym}
use Rattle.quic_peer_core.proofs.end.put_peer_close.Goals as goal

pub returns-in-Application : goal.returns-in-Application
returns-in-Application c = rw (sym c.as_close.ensures, c.in-Application.is) (rw c.deref-in-Application.ensures.value at c.put_close-in-Application.ensures)
