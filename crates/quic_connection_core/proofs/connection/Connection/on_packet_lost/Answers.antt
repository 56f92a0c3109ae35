use Rattle.std.proofs.Common.{sym, ap, ◌∙◌}
use Rattle.quic_streams_state.specs.State.{streams_of}
use Rattle.quic_machine.specs.End.{with_end, with_streams, streams_at}
use Rattle.quic_connection_parts.specs.Tracked.{with_carried_lost}
use Rattle.quic_connection_parts.proofs.OnStreams.{lost_on_streams}
use Rattle.quic_connection_core.proofs.connection.Connection.on_packet_lost.Goals as goal

pub returns-clause-ok : goal.returns-clause-ok
returns-clause-ok g c =
    let now = c.args.self.now in
    let whole = c.self.view_is in
    let streams = c.on_carried_lost.new.streams in
    let lost = c.in_ok-on_carried_lost.ensures ∙ ap (λ w. with_carried_lost c.args.packet.now.carried (streams_at w.end)) whole in
    ap (λ w. with_end w (with_streams w.end (streams_of streams.state streams.pending))) whole
    ∙ ap (λ t. with_end now (with_streams now.end t)) lost
    ∙ ap (λ x. with_end now x) (sym (lost_on_streams c.args.packet.now.carried now.end))
