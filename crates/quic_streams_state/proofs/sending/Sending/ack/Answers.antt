use Rattle.quic_streams_state.specs.Parts.{Sending}
use Rattle.quic_streams_state.proofs.Requeued.{on_both, acked_is}
use Rattle.quic_streams_state.proofs.sending.Sending.ack.Goals as goal

pub returns-clause-ok : goal.returns-clause-ok
returns-clause-ok c =
    let s : Sending = record { halves = c.self.inside.send; accepted = c.self.inside.data_sent; limit = c.self.inside.max_data; window = c.self.inside.send_window; first_own = c.self.inside.initial_max_own; first_remote = c.self.inside.initial_max_remote; queue = c.self.inside.pending; blocked = c.self.inside.connection_blocked.items; said = c.self.inside.said_limit } in
    rw (← c.self.view_is) (on_both c.ack.result c.ack.ensures.ok c.ack.ensures.queue (λ e g. acked_is s c.args.frame.now c.ack.new.self c.ack.new.queue e g))
