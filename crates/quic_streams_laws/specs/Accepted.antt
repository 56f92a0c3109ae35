-- Which of the peer's streams were accepted (RFC 9000, section 2.1).
use Rattle.std.specs.Prelude.{ℕ, ◌<◌}
use Rattle.quic_wire_core.specs.declared.stream_id.Dir.{Dir}
use Rattle.quic_wire_core.specs.StreamId.{stream_id, other_side}
use Rattle.quic_streams_parts.specs.Dirs.{of}
use Rattle.quic_streams_state.specs.declared.state.StreamsState.{StreamsState}

-- each of the peer's streams below the count of its kind was accepted
pub record HoldsAccepted (accepted : ℕ → Type 0) (s : StreamsState) : Type 0 where
  pub each : (dir : Dir) (index : ℕ) → index < of dir s.opening.accepted → accepted (stream_id (other_side s.side) dir index)
