use Rattle.std.proofs.Common.{ap, ◌∙◌}
use Rattle.quic_spaces.specs.Acknowledging.{ack_at}
use Rattle.quic_spaces.specs.Marks.{told_counts}
use Rattle.quic_wire.specs.AckView.{counts_view}
use Rattle.quic_wire.specs.Value.{ack}
use Rattle.quic_wire.specs.Writing.{frame_size}
use Rattle.quic_machine.specs.Poll.{ack_of}
use Rattle.quic_connection_core.proofs.Marks.{shown_told}
use Rattle.quic_connection_core.proofs.connection.Connection.ack_size.Goals as goal

pub returns : goal.returns
returns g c =
    let s = c.self.inside.space in
    let shown = shown_told c.as_ref.result c.told_counts-counts.result (told_counts (counts_view s.ecn_counters)) c.as_ref.ensures.value c.told_counts-counts.ensures in
    c.size.ensures.size
    ∙ ap (λ counts. frame_size (ack (ack_at s.acknowledging c.clock.result counts))) shown
    ∙ ap (λ now. frame_size (ack (ack_at s.acknowledging now (told_counts (counts_view s.ecn_counters))))) c.clock.ensures
    ∙ ap (λ w. frame_size (ack (ack_of w.end))) c.self.view_is
