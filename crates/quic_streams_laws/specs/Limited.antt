-- What is written stays within the peer's limits, and what comes within those that this end told,
-- which never pass those that it may tell (RFC 9000, section 4).
use Rattle.std.specs.Prelude.{◌≡◌, ℕ, ◌≤◌, Some}
use Rattle.quic_wire_core.specs.declared.stream_id.Dir.{Dir}
use Rattle.quic_streams_parts.specs.Table.{at}
use Rattle.quic_streams_parts.specs.Dirs.{of}
use Rattle.quic_streams_parts.specs.SendHalf.{SendHalf, written_on}
use Rattle.quic_streams_parts.specs.RecvHalf.{RecvHalf, credit, raised_on, greatest_offset}
use Rattle.quic_streams_state.specs.declared.state.StreamsState.{StreamsState}
use Rattle.quic_streams_state.specs.State.{seen}
use Rattle.quic_streams_state.specs.Limits.{raised_data, raised_count}
use Rattle.quic_streams_laws.specs.Keeping.{EndsThere}
use Rattle.quic_streams_laws.specs.Shape.{IsShaped}

-- what is consumed of a half was seen, what was seen is within what the peer was told, and this
-- within what it may be told
pub record IsWithin (window : ℕ) (h : RecvHalf) : Type 0 where
  pub consumed : credit h ≤ h.seen
  pub seen : h.seen ≤ h.announced
  pub announced : h.announced ≤ raised_on window h
  pub ended : EndsThere h

-- the same of all streams, and of how many there are
pub record AreWithin (s : StreamsState) : Type 0 where
  pub accepted : s.sending.accepted ≤ s.sending.limit
  pub written : (id : ℕ) (h : SendHalf) → at s.sending.halves.live id ≡ Some h → written_on h ≤ h.limit
  pub announced : s.receiving.announced ≤ raised_data s.receiving
  pub seen : seen s.receiving ≤ raised_data s.receiving
  pub halves : (id : ℕ) (h : RecvHalf) → at s.receiving.halves.live id ≡ Some h → IsWithin s.receiving.stream_window h
  pub window : s.receiving.stream_window ≤ greatest_offset
  pub counts : (dir : Dir) → of dir s.opening.announced ≤ raised_count dir s.opening

-- with the halves in their order
pub record IsLimited (s : StreamsState) : Type 0 where
  pub shape : IsShaped s
  pub limits : AreWithin s
