-- Credit: how far an end lets its peer come. A limit that it says is at most its window past what
-- was consumed, so that nothing is let come twice, or without bound (RFC 9000, sections 4.1, 4.2,
-- 19.9 and 19.10).
use Rattle.std.specs.Prelude.{ℕ, ◌+◌, ◌≤◌, max, Bool, false, not, ◌==◌, ◌&&◌, ◌||◌, if◌then◌else◌, List, [], ◌∷◌, length, Option, Some, None}
use Rattle.std.specs.List.{list_any, sum_by, count_by}
use Rattle.std.specs.Option.{is_some}
use Rattle.quic_wire_core.specs.declared.stream_id.Side.{Side}
use Rattle.quic_wire_core.specs.declared.stream_id.Dir.{Dir}
use Rattle.quic_wire_core.specs.declared.stream_id.Dir.TheVariants.{Bi, Uni}
use Rattle.quic_wire_core.specs.StreamId.{dir_of}
use Rattle.quic_wire.specs.Value.{FrameValue, StreamCountValue, stream, reset_stream, max_data, max_stream_data, max_streams}
use Rattle.quic_config.specs.Transport.{Settings}
use Rattle.quic_streams_parts.specs.Dirs.{is_own, is_two_way}
use Rattle.quic_streams_state.specs.Control.{dir_named}
use Rattle.quic_machine.specs.Start.{AreStarted}
use Rattle.quic_headline.specs.Runs.{Run, Told, Packet, In, until, AreServed, reads, bytes_of, finished, ended, reset}
use Rattle.quic_headline.specs.Observer.{Sent, took, sents_until}
use Rattle.quic_headline.specs.Amounts.{making_at, greatest}
use Rattle.quic_headline.specs.Unread.{stopped, receive_window, stream_window}
use Rattle.quic_headline.specs.Undone.{same_dir}

-- ---- what came of a stream

-- the offset behind the last byte that a frame brings of a stream, or the final size that it names;
-- 0 of any other frame (sections 19.4 and 19.8)
abbrev pub end_in : ℕ → FrameValue → ℕ
end_in id (stream f) = if f.id == id then f.offset + length f.bytes else 0
end_in id (reset_stream f) = if f.id == id then f.final_size else 0
end_in id f = 0

-- whether a frame resets a stream
abbrev pub resets_stream : ℕ → FrameValue → Bool
resets_stream id (reset_stream f) = f.id == id
resets_stream id f = false

-- whether the reset of a stream came
abbrev pub was_reset : ℕ → List Packet → Bool
was_reset id packets = list_any (λ p. list_any (resets_stream id) p.frames) packets

-- the stream of which a frame brings bytes, or which it resets
abbrev pub stream_in : FrameValue → Option ℕ
stream_in (stream f) = Some f.id
stream_in (reset_stream f) = Some f.id
stream_in f = None

-- a stream before others, unless it is one of them
abbrev pub and_stream : Option ℕ → List ℕ → List ℕ
and_stream None ids = ids
and_stream (Some id) ids = if list_any (λ j. j == id) ids then ids else id ∷ ids

-- the streams of frames before others, each once
abbrev pub streams_in : List FrameValue → List ℕ → List ℕ
streams_in [] ids = ids
streams_in (f ∷ fs) ids = and_stream (stream_in f) (streams_in fs ids)

-- the streams of all frames that came, each once
abbrev pub streams_of : List Packet → List ℕ
streams_of [] = []
streams_of (p ∷ ps) = streams_in p.frames (streams_of ps)

-- ---- what is consumed

-- How many bytes of a stream count as consumed (section 4.1): those that were read. Where nothing
-- more is read, for the end stopped it or its reset came, it is all up to the greatest offset that
-- came, or to the final size.
abbrev pub consumed_on : ℕ → List Packet → List Told → ℕ
consumed_on id packets told = max (length (bytes_of (reads id told))) (if stopped id told || was_reset id packets then greatest (end_in id) packets else 0)

-- and how many of all streams
abbrev pub all_consumed : List Packet → List Told → ℕ
all_consumed packets told = sum_by (λ id. consumed_on id packets told) (streams_of packets)

-- ---- the clause

-- The limit that a frame says, where it says one, is within such windows of what these calls
-- consumed of what came: MAX_DATA (section 19.9) of all that was consumed, MAX_STREAM_DATA (section
-- 19.10) of the bytes that were read of its stream.
abbrev pub StaysWithin : (window stream_window : ℕ) → List Packet → List Told → FrameValue → Type 0
StaysWithin window stream_window packets told (max_data limit) = limit ≤ window + all_consumed packets told
StaysWithin window stream_window packets told (max_stream_data f) = f.limit ≤ stream_window + length (bytes_of (reads f.id told))
StaysWithin window stream_window packets told f = Unit {0}

-- So it is of each frame in each datagram that an end gave, at each place, and so at the one behind
-- the poll that gave it. What was consumed only grows, so this is the place where it says most.
abbrev pub CreditIsBounded : Run → Type 0
CreditIsBounded r = (s : AreStarted r.start) (side : Side) (i : ℕ) (sent : Sent) (f : FrameValue) → AreServed r i → In sent (sents_until r side i) → In f sent.frames
    → StaysWithin (receive_window r s side) (stream_window r s side) (took r side i) (until r side i) f

-- ---- streams

-- whether nothing more of a stream is read: its end was read, this end stopped it, or its reset
-- came
abbrev pub is_read_up : ℕ → List Packet → List Told → Bool
is_read_up id packets told = finished id told || (stopped id told || was_reset id packets)

-- whether nothing more is written on a stream: it runs one way, or this end finished or reset it
abbrev pub is_written_up : ℕ → List Told → Bool
is_written_up id told = not (is_two_way (dir_of id)) || (ended id told || is_some (reset id told))

-- whether a stream is done at an end of this side: one of this direction that its peer opened
-- (section 4.6)
abbrev pub is_over : Side → Dir → List Packet → List Told → ℕ → Bool
is_over side dir packets told id = not (is_own side id) && (same_dir (dir_of id) dir && (is_read_up id packets told && is_written_up id told))

-- and how many are
abbrev pub all_over : Side → Dir → List Packet → List Told → ℕ
all_over side dir packets told = count_by (λ id. is_over side dir packets told id) (streams_of packets)

-- how many streams of a direction an end lets its peer have at once
abbrev pub most_at_once : Dir → Settings → ℕ
most_at_once Bi s = s.max_bidi
most_at_once Uni s = s.max_uni

-- each count that MAX_STREAMS says (section 19.11), in each datagram that an end gave, is at most
-- as many past those that are done
abbrev pub CountsAreBounded : Run → Type 0
CountsAreBounded r = (s : AreStarted r.start) (side : Side) (i : ℕ) (sent : Sent) (f : StreamCountValue) → AreServed r i → In sent (sents_until r side i) → In (max_streams f) sent.frames
    → f.count ≤ most_at_once (dir_named f.one_way) (making_at side r.start s).settings + all_over side (dir_named f.one_way) (took r side i) (until r side i)
