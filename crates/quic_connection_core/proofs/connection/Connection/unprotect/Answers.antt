use Rattle.quic_connection_core.proofs.connection.Connection.unprotect.Goals as goal

pub returns-clause-opened : goal.returns-clause-opened
returns-clause-opened g c = rw (← c.self.view_is) (rw c.expected-expected.ensures.value at c.open_packet.ensures.opened)
