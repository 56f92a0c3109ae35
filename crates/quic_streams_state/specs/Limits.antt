-- How far the peer may come, and when it is told so (RFC 9000, sections 4.1, 4.2 and 4.6).
use Rattle.std.specs.Prelude.{ℕ, ◌+◌, ◌^◌, min, Bool, true, false, nat_le, ◌&&◌, ◌||◌, if◌then◌else◌, Option, Some, None}
use Rattle.quic_wire_core.specs.declared.stream_id.Dir.{Dir}
use Rattle.quic_wire_core.specs.declared.stream_id.Dir.TheVariants.{Bi, Uni}
use Rattle.quic_streams_parts.specs.Table.{at}
use Rattle.quic_streams_parts.specs.Dirs.{Flags, of}
use Rattle.quic_streams_parts.specs.RecvHalf.{RecvHalf, greatest_offset, least_growth, limit_grew, takes_limits}
use Rattle.quic_retransmits.specs.Retransmits.{Retransmits, with_id}
pub use Rattle.quic_streams_state.specs.Parts.{most_streams}
use Rattle.quic_streams_state.specs.State.{StreamsState, Opening, Receiving, consumed, Streams, streams_of}

-- how far the bytes of all streams may come: by the window past those that were consumed
abbrev pub raised_data : Receiving → ℕ
raised_data r = min (r.window + consumed r) greatest_offset

-- how many streams of a kind the peer may open: by the configured count past those that are done
-- both ways
abbrev pub raised_count : Dir → Opening → ℕ
raised_count dir o = min (of dir o.configured + of dir o.done) most_streams

-- whether either grew so far past what the peer was told that it is told anew
abbrev pub data_grew : Receiving → Bool
data_grew r = nat_le (r.announced + least_growth r.window) (raised_data r)

-- whether the count of a kind grew so far that the peer is told anew
abbrev pub count_grew : Dir → Opening → Bool
count_grew dir o = nat_le (of dir o.announced + least_growth (of dir o.configured)) (raised_count dir o)

-- flags of the counts that grew
abbrev pub counts_grew : Opening → Flags
counts_grew o = record { bi = count_grew Bi o; uni = count_grew Uni o }

-- with the limits that grew
abbrev pub decided : StreamsState → Retransmits → Retransmits
decided s p = record p {
  max_data = p.max_data || data_grew s.receiving;
  max_stream_id = record { bi = p.max_stream_id.bi || count_grew Bi s.opening; uni = p.max_stream_id.uni || count_grew Uni s.opening };
}

-- the same, beside the streams
abbrev pub settled : StreamsState → Retransmits → Streams
settled s p = streams_of s (decided s p)

-- ---- one stream

-- whether the limit of a half grew so far
abbrev pub grew_on : ℕ → Option RecvHalf → Bool
grew_on window None = false
grew_on window (Some h) = limit_grew window h

-- whether the limit of a stream grew so far
abbrev pub stream_grew : StreamsState → ℕ → Bool
stream_grew s id = grew_on s.receiving.stream_window (at s.receiving.halves.live id)

-- with a stream, where its limit grew
abbrev pub with_stream_if : Bool → ℕ → Retransmits → Retransmits
with_stream_if true id p = record p { max_stream_data = with_id id p.max_stream_data }
with_stream_if false id p = p

-- with all limits that a read let grow
abbrev pub read_decided : StreamsState → Retransmits → ℕ → Retransmits
read_decided s p id = with_stream_if (stream_grew s id) id (decided s p)

-- ---- the peer's limits

-- whether all bytes that the peer lets come were accepted
abbrev pub can_send_data_blocked : StreamsState → Bool
can_send_data_blocked s = nat_le s.sending.limit s.sending.accepted

-- whether a half takes limits
abbrev pub takes_limits_of : Option RecvHalf → Bool
takes_limits_of None = false
takes_limits_of (Some h) = takes_limits h

-- whether the peer may be told how far it may come on a stream
abbrev pub can_send_flow_control : StreamsState → ℕ → Bool
can_send_flow_control s id = takes_limits_of (at s.receiving.halves.live id)
