use Rattle.quic_streams_state.specs.Parts.{Sending}
use Rattle.quic_streams_state.proofs.Requeued.{on_both, sent_is}
use Rattle.quic_streams_state.proofs.sending.Sending.put_frame.Goals as goal

pub returns-clause-new : goal.returns-clause-new
returns-clause-new c =
    let s : Sending = record { halves = c.self.inside.send; accepted = c.self.inside.data_sent; limit = c.self.inside.max_data; window = c.self.inside.send_window; first_own = c.self.inside.initial_max_own; first_remote = c.self.inside.initial_max_remote; queue = c.self.inside.pending; blocked = c.self.inside.connection_blocked.items; said = c.self.inside.said_limit } in
    rw (← c.self.view_is) (on_both c.put_frame.result c.put_frame.ensures.new c.put_frame.ensures.queue (λ e g. sent_is c.args.fair s c.args.id c.args.max_len c.put_frame.new.self c.put_frame.new.queue e g))
