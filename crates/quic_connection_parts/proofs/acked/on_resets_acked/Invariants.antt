use Rattle.std.proofs.Common.{◌≡◌, length}
use Rattle.quic_streams_state.specs.State.{streams_of}
use Rattle.quic_connection_parts.specs.Tracked.{with_resets_acked}
use Rattle.quic_connection_parts.proofs.acked.on_resets_acked.Given as goal

abbrev pub invariant-loop-reset : goal.invariant-loop-reset
invariant-loop-reset l =
    with_resets_acked l.resets.reset_stream (streams_of l.streams.state l.streams.pending) ≡ with_resets_acked l.initial.resets.reset_stream (streams_of l.initial.streams.state l.initial.streams.pending)

abbrev pub decreases-loop-reset : goal.decreases-loop-reset
decreases-loop-reset l = length l.resets.reset_stream
