use Rattle.std.proofs.Common.{◌≡◌, drop}
use Rattle.quic_connection_parts.specs.Tracked.{with_frames_lost}
use Rattle.quic_connection_parts.proofs.acked.on_streams_lost.Given as goal

abbrev pub invariant-loop-frame : goal.invariant-loop-frame
invariant-loop-frame l = with_frames_lost (drop l.frame-index l.frames) l.state ≡ with_frames_lost l.frames l.initial.state
