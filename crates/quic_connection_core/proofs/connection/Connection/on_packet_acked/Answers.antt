use Rattle.std.proofs.Common.{sym, ap, ◌∙◌}
use Rattle.quic_streams_state.specs.State.{streams_of}
use Rattle.quic_machine.specs.End.{with_end, with_streams, streams_at}
use Rattle.quic_machine.specs.Acked.{without_known}
use Rattle.quic_connection_parts.specs.Tracked.{with_carried_acked}
use Rattle.quic_connection_parts.proofs.OnStreams.{acked_on_streams}
use Rattle.quic_connection_core.proofs.connection.Connection.on_packet_acked.Goals as goal

pub returns-clause-ok : goal.returns-clause-ok
returns-clause-ok g c =
    let now = c.args.self.now in
    let known = c.forget_known.new.self in
    let streams = c.on_carried_acked.new.streams in
    let acked = c.in_ok-frames.ensures ∙ ap (λ w. with_carried_acked c.args.packet.carried (streams_at w.end)) c.self.view_is in
    ap (λ w. with_end w (with_streams w.end (streams_of streams.state streams.pending))) c.self.view_is
    ∙ ap (λ t. with_end known (with_streams known.end t)) acked
    ∙ ap (λ w. with_end w (with_streams w.end (with_carried_acked c.args.packet.carried (streams_at w.end)))) (c.forget_known.ensures ∙ ap (λ p. with_end now (without_known p.carried.largest_acked now.end)) c.packet.view_is)
    ∙ ap (λ x. with_end now x) (sym (acked_on_streams c.args.packet.carried now.end))
