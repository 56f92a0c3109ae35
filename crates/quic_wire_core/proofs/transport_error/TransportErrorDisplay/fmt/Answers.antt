use Rattle.quic_wire_core.proofs.transport_error.TransportErrorDisplay.fmt.Goals as goal

pub returns : goal.returns
returns g c = record { text = (c.self.inside.reason, rw (← c.self.view_is) c.write_error.ensures) }
