use Rattle.std.proofs.Common.{rules, ◌≡◌, ◌||◌, true, false, sym, ap, ◌∙◌}
use Rattle.std.proofs.Math.Bool.{or-true, or_comm}
use Rattle.quic_streams_state.specs.Waiting.{can_send_stream_data}
use Rattle.quic_machine.specs.Poll.{message_waits}
use Rattle.quic_connection_core.proofs.connection.Connection.bytes_wait.Goals as goal

pub returns-then-can_send_stream_data : goal.returns-then-can_send_stream_data
returns-then-can_send_stream_data g c =
    let e = c.args.self.now.end in
    let here : c.can_send_stream_data.result ≡ true = search rules in
    let same = c.can_send_stream_data.ensures ∙ ap (λ w. can_send_stream_data w.end.streams) c.self.view_is in
    here ∙ sym (ap (λ b. message_waits e || b) (sym same ∙ here) ∙ or-true (message_waits e))

pub returns-else-can_send_stream_data : goal.returns-else-can_send_stream_data
returns-else-can_send_stream_data g c =
    let e = c.args.self.now.end in
    let here : c.can_send_stream_data.result ≡ false = search rules in
    let same = c.can_send_stream_data.ensures ∙ ap (λ w. can_send_stream_data w.end.streams) c.self.view_is in
    c.message_waits.ensures
    ∙ or_comm false (message_waits e)
    ∙ ap (λ b. message_waits e || b) (sym here ∙ same)
