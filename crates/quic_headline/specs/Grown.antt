-- Limits that grew: where an end lets its peer come so much further than it told it, the frame that
-- says so waits (RFC 9000, sections 4.1, 4.2 and 4.6).
use Rattle.std.specs.Prelude.{ℕ, ◌+◌, ◌/◌, ◌≤◌, ◌≡◌, max, min, true, List, length, Some}
use Rattle.quic_wire_core.specs.declared.stream_id.Side.{Side}
use Rattle.quic_wire_core.specs.declared.stream_id.Dir.{Dir}
use Rattle.quic_streams_parts.specs.Table.{at}
use Rattle.quic_streams_parts.specs.Dirs.{of}
use Rattle.quic_streams_parts.specs.RecvHalf.{RecvHalf, greatest_offset, takes_limits}
use Rattle.quic_retransmits.specs.Retransmits.{has_id}
use Rattle.quic_streams_state.specs.State.{Opening, Receiving, consumed}
use Rattle.quic_streams_state.specs.Limits.{most_streams}
use Rattle.quic_machine.specs.End.{End}
use Rattle.quic_machine.specs.Machine.{World, end_at}
use Rattle.quic_headline.specs.Runs.{Run, Told, until, reads, bytes_of, AreServed, LeadsTo}

-- A window is how far past what was used up the peer may come, though never past the greatest limit
-- that there is. The limit grew where it lies an eighth of the window above the one that the peer
-- was told, or one, if that is more.
abbrev pub HasGrown : (window used most told : ℕ) → Type 0
HasGrown window used most told = told + max (window / 8) 1 ≤ min (window + used) most

-- on all data: what is used up is what was consumed, the sum over all streams of the bytes that
-- were read, and of the greatest offset that arrived where the stream was stopped or reset (section
-- 4.1)
abbrev pub DataHasGrown : Receiving → Type 0
DataHasGrown r = HasGrown r.window (consumed r) greatest_offset r.announced

-- On the data of a stream, while its limits matter: this end didn't stop it, nor is its end known.
-- What is used up are the bytes that were read of it, by what was told at the end.
pub record StreamHasGrown (told : List Told) (r : Receiving) (id : ℕ) : Type 0 where
  pub half : RecvHalf
  pub found : at r.halves.live id ≡ Some half
  pub matters : takes_limits half ≡ true
  pub grew : HasGrown r.stream_window (length (bytes_of (reads id told))) greatest_offset half.announced

-- on streams of a direction: what is used up are those that are done both ways (section 4.6)
abbrev pub CountHasGrown : Opening → Dir → Type 0
CountHasGrown o dir = HasGrown (of dir o.configured) (of dir o.done) most_streams (of dir o.announced)

-- each limit that grew waits: MAX_DATA, MAX_STREAM_DATA of the stream, or MAX_STREAMS of the
-- direction
pub record GrownLimitsWaitAt (told : List Told) (e : End) : Type 0 where
  pub bytes : DataHasGrown e.streams.receiving → e.waiting.frames.max_data ≡ true
  pub stream : (id : ℕ) → StreamHasGrown told e.streams.receiving id → has_id id e.waiting.frames.max_stream_data ≡ true
  pub count : (dir : Dir) → CountHasGrown e.streams.opening dir → of dir e.waiting.frames.max_stream_id ≡ true

-- so it is at each place, at both ends, before which no delivery, no poll and no timeout met want
-- of memory
abbrev pub GrownLimitsWait : Run → Type 0
GrownLimitsWait r = (i : ℕ) (w : World) → AreServed r i → LeadsTo r i w → (side : Side) → GrownLimitsWaitAt (until r side i) (end_at side w)
