-- What an acknowledgement and a loss make of what was sent on streams (RFC 9000, sections 3.1 and
-- 13.3).
use Rattle.std.specs.Prelude.{ℕ, Bool, true, false, not, ◌&&◌, if◌then◌else◌, Option, Some, None}
use Rattle.std.specs.Option.{is_some}
use Rattle.quic_send_buffer.specs.declared.stream_meta.StreamMeta.{StreamMeta}
use Rattle.quic_streams_parts.specs.declared.answers.StreamEvent.TheVariants as stream_events
use Rattle.quic_streams_parts.specs.Table.{at}
use Rattle.quic_streams_parts.specs.Events.{with_event}
use Rattle.quic_streams_parts.specs.SendHalf.{SendHalf, is_acked, half_acked, half_lost}
use Rattle.quic_retransmits.specs.Retransmits.{Retransmits}
use Rattle.quic_streams_state.specs.State.{StreamsState, Streams, streams_of, send_done}
use Rattle.quic_streams_state.specs.Limits.{settled}
use Rattle.quic_streams_state.specs.Writing.{replaced}

-- the part of a stream on which something was sent
abbrev pub sent_half : StreamsState → ℕ → Option SendHalf
sent_half s id = at s.sending.halves.live id

-- whether all of a part is acknowledged, if there is one
abbrev pub is_acked_at : Option SendHalf → Bool
is_acked_at None = false
is_acked_at (Some h) = is_acked h

-- whether a part is done by a frame of it that is acknowledged
abbrev pub finishes : Option SendHalf → StreamMeta → Bool
finishes None m = false
finishes (Some h) m = not (is_some h.reset) && is_acked (half_acked h m)

-- all of a stream is acknowledged, its end too: its part is done, and the application is told so
abbrev pub finished : StreamsState → ℕ → StreamsState
finished s id = let t = send_done s id in record t { events = with_event (stream_events.Finished id) t.events }

-- a frame of a stream that wasn't reset is acknowledged
abbrev pub acked_on : SendHalf → StreamsState → Retransmits → StreamMeta → Streams
acked_on h s p m = if is_acked (half_acked h m) then settled (finished (replaced s m.id (half_acked h m)) m.id) p else streams_of (replaced s m.id (half_acked h m)) p

-- a STREAM frame is acknowledged on a part that may be done, or reset
abbrev pub acked_at : Option SendHalf → StreamsState → Retransmits → StreamMeta → Streams
acked_at None s p m = streams_of s p
acked_at (Some h) s p m = if is_some h.reset then streams_of s p else acked_on h s p m

-- a STREAM frame is acknowledged
abbrev pub after_stream_acked : StreamsState → Retransmits → StreamMeta → Streams
after_stream_acked s p m = acked_at (sent_half s m.id) s p m

-- whether a part is in use and was reset
abbrev pub is_reset_in_use : Option SendHalf → Bool
is_reset_in_use None = false
is_reset_in_use (Some h) = is_some h.reset

-- RESET_STREAM is acknowledged: the part of a stream that was reset is done
abbrev pub reset_acked_at : Option SendHalf → StreamsState → Retransmits → ℕ → Streams
reset_acked_at None s p id = streams_of s p
reset_acked_at (Some h) s p id = if is_some h.reset then settled (send_done s id) p else streams_of s p

-- RESET_STREAM of a stream is acknowledged
abbrev pub after_reset_acked : StreamsState → Retransmits → ℕ → Streams
after_reset_acked s p id = reset_acked_at (sent_half s id) s p id

-- a STREAM frame is lost: nothing of a stream that was reset goes again
abbrev pub lost_at : Option SendHalf → StreamsState → StreamMeta → StreamsState
lost_at None s m = s
lost_at (Some h) s m = if is_some h.reset then s else replaced s m.id (half_lost h m)

-- a STREAM frame is lost
abbrev pub after_stream_lost : StreamsState → StreamMeta → StreamsState
after_stream_lost s m = lost_at (sent_half s m.id) s m
