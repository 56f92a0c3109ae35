use Rattle.quic_streams_state.specs.Parts.{Sending}
use Rattle.quic_streams_state.proofs.Requeued.{reset_is}
use Rattle.quic_streams_state.proofs.sending.Sending.reset.Goals as goal

pub returns : goal.returns
returns c =
    let s : Sending = record { halves = c.self.inside.send; accepted = c.self.inside.data_sent; limit = c.self.inside.max_data; window = c.self.inside.send_window; first_own = c.self.inside.initial_max_own; first_remote = c.self.inside.initial_max_remote; queue = c.self.inside.pending; blocked = c.self.inside.connection_blocked.items; said = c.self.inside.said_limit } in
    rw (← c.self.view_is) (reset_is s c.args.id c.reset.new.self c.reset.new.queue c.reset.ensures.new c.reset.ensures.queue)
