use Rattle.quic_config.proofs.SettingsRange.{in_range}
use Rattle.quic_config.proofs.transport.TransportConfig.transport_parameters.Goals as goal

pub returns-clause-in_range : goal.returns-clause-in_range
returns-clause-in_range c =
    in_range c.args.self.now
    (rw (← c.self.view_is) c.milliseconds.ensures.bound)
    (rw (← c.self.view_is) c.bounded.ensures.bound)
    (rw (← c.self.view_is) c.bounded-stream_window.ensures.bound)
    (rw (← c.self.view_is) c.self.invariant.0.bidi)
    (rw (← c.self.view_is) c.self.invariant.0.uni)

pub returns-clause-range : goal.returns-clause-range
returns-clause-range c = record {
  receive_window = rw (← c.self.view_is) c.bounded.ensures.bound;
  stream_receive_window = rw (← c.self.view_is) c.bounded-stream_window.ensures.bound;
  bounds = rw (← c.self.view_is) c.self.invariant.0;
  search = rw (← c.self.view_is) c.self.invariant.1;
}
