use Rattle.std.proofs.Common.{◌≡◌, drop}
use Rattle.quic_streams_state.specs.State.{streams_of}
use Rattle.quic_connection_parts.specs.Tracked.{with_frames_acked}
use Rattle.quic_connection_parts.proofs.acked.on_streams_acked.Given as goal

abbrev pub invariant-loop-frame : goal.invariant-loop-frame
invariant-loop-frame l =
    with_frames_acked (drop l.frame-index l.frames) (streams_of l.streams.state l.streams.pending) ≡ with_frames_acked l.frames (streams_of l.initial.streams.state l.initial.streams.pending)
