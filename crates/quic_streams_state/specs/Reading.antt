-- What reads of streams answer and leave, and what stops them (RFC 9000, sections 2.2 and 3.5).
use Rattle.std.specs.Prelude.{ℕ, ◌≡◌, Bool, true, false, ◌&&◌, ◌||◌, not, if◌then◌else◌, List, [], ◌∷◌, ◌++◌, Option, Some, None, Result, Ok, Err}
use Rattle.std.specs.Option.{is_some, is_none}
use Rattle.quic_assembler.specs.declared.assembler.Chunk.{Chunk}
use Rattle.quic_streams_parts.specs.declared.answers.ReadError.{ReadError}
use Rattle.quic_streams_parts.specs.declared.answers.ReadError.TheVariants as read_errors
use Rattle.quic_streams_parts.specs.declared.answers.ReadableError.{ReadableError}
use Rattle.quic_streams_parts.specs.declared.answers.ClosedStream.{ClosedStream}
use Rattle.quic_streams_parts.specs.declared.answers.UpdateError.{UpdateError}
use Rattle.quic_streams_parts.specs.declared.answers.UpdateError.TheVariants as update_errors
use Rattle.quic_streams_parts.specs.Dirs.{Flags}
use Rattle.quic_streams_parts.specs.RecvHalf.{RecvHalf, readable, begun, next_of, read_on, stopped_now}
use Rattle.quic_streams_parts.specs.Table.{at}
use Rattle.quic_retransmits.specs.Retransmits.{Retransmits, with_id, has_id}
use Rattle.quic_streams_state.specs.State.{StreamsState, Streams, streams_of, receiving_half, with_recv, recv_done}
use Rattle.quic_streams_state.specs.Limits.{data_grew, counts_grew, settled, stream_grew, read_decided}

-- ---- a read begins

-- whether a read of a stream may begin, in order or not, and why not
abbrev pub read_answer : StreamsState → ℕ → Bool → Result (Unit {0}) ReadableError
read_answer s id ordered = readable (receiving_half s id) ordered

-- one in order changes nothing; any other makes those behind it so
abbrev pub begun_at : Option RecvHalf → StreamsState → ℕ → Bool → StreamsState
begun_at None s id ordered = s
begun_at (Some h) s id true = s
begun_at (Some h) s id false = with_recv s id (begun h false)

-- the streams after a read began, unless it was refused
abbrev pub begun_unless : Result (Unit {0}) ReadableError → StreamsState → ℕ → Bool → StreamsState
begun_unless (Ok x) s id ordered = begun_at (receiving_half s id) s id ordered
begun_unless (Err e) s id ordered = s

-- a read that is refused leaves all as it was
abbrev pub after_read_begun : StreamsState → ℕ → Bool → StreamsState
after_read_begun s id ordered = begun_unless (read_answer s id ordered) s id ordered

-- the limit of a stream that is read has its place among those that wait to be told
abbrev pub with_reserved : Retransmits → ℕ → Retransmits
with_reserved p id = record p { max_stream_data = with_id id p.max_stream_data }

-- whether it had none before, unless the read was refused
abbrev pub reserves_unless : Result (Unit {0}) ReadableError → Retransmits → ℕ → Result Bool ReadableError
reserves_unless (Ok x) p id = Ok (not (has_id id p.max_stream_data))
reserves_unless (Err e) p id = Err e

-- what a call that begins a read answers
abbrev pub begin_answer : StreamsState → Retransmits → ℕ → Bool → Result Bool ReadableError
begin_answer s p id ordered = reserves_unless (read_answer s id ordered) p id

-- memory may lack for that place where it is new, and for a half that an unordered read brings into
-- use
abbrev pub begin_may_lack : StreamsState → Retransmits → ℕ → Bool → Bool
begin_may_lack s p id ordered = not (has_id id p.max_stream_data) || (not ordered && is_none (at s.receiving.halves.live id))

-- ---- it goes on

-- what the reads of a stream have told: nothing yet but bytes, its end, or its reset with this code
pub data Told : Type 0 where
  told_bytes : Told
  told_end : Told
  told_reset : ℕ → Told

-- what is told again is what was told
abbrev pub next_at : Told → Option RecvHalf → ℕ → Result (Option Chunk) ReadError
next_at told_end h most = Ok None
next_at (told_reset code) h most = Err (read_errors.Reset code)
next_at told_bytes None most = Err read_errors.Blocked
next_at told_bytes (Some h) most = next_of h most

-- what a `next` of at most so many bytes answers
abbrev pub next_answer : Told → StreamsState → ℕ → ℕ → Result (Option Chunk) ReadError
next_answer told s id most = next_at told (receiving_half s id) most

-- what is told then
abbrev pub told_by : Result (Option Chunk) ReadError → Told → Told
told_by (Ok (Some chunk)) told = told
told_by (Ok None) told = told_end
told_by (Err (read_errors.Reset code)) told = told_reset code
told_by (Err read_errors.Blocked) told = told
told_by (Err read_errors.Memory) told = told

-- what a `next` leaves, by its answer: a part whose end or reset is told is done
abbrev pub read_by : Result (Option Chunk) ReadError → Option RecvHalf → StreamsState → ℕ → ℕ → StreamsState
read_by answer None s id most = s
read_by (Ok (Some chunk)) (Some h) s id most = with_recv s id (read_on h most)
read_by (Ok None) (Some h) s id most = recv_done s id
read_by (Err (read_errors.Reset code)) (Some h) s id most = recv_done s id
read_by (Err read_errors.Blocked) (Some h) s id most = s
read_by (Err read_errors.Memory) (Some h) s id most = s

-- once the end or the reset was told, nothing changes
abbrev pub after_next : Told → Result (Option Chunk) ReadError → StreamsState → ℕ → ℕ → StreamsState
after_next told_bytes answer s id most = read_by answer (receiving_half s id) s id most
after_next told_end answer s id most = s
after_next (told_reset code) answer s id most = s

-- ---- and is over: the peer is told of limits that grew

-- whether a flag is set
abbrev pub is_any : Flags → Bool
is_any f = f.bi || f.uni

-- whether the peer is to be told
abbrev pub finalize_answer : StreamsState → ℕ → Bool
finalize_answer s id = data_grew s.receiving || (is_any (counts_grew s.opening) || stream_grew s id)

-- what a read that is over leaves: the limits that grew wait to be told
abbrev pub after_finalize : StreamsState → Retransmits → ℕ → Streams
after_finalize s p id = streams_of s (read_decided s p id)

-- ---- stopping (section 3.5)

-- whether nothing may be read on a stream: there is no such part, or this end stopped it
abbrev pub is_closed_at : Option RecvHalf → Bool
is_closed_at None = true
is_closed_at (Some h) = h.stopped

-- whether nothing may be read on the stream of an id
abbrev pub is_closed : StreamsState → ℕ → Bool
is_closed s id = is_closed_at (receiving_half s id)

-- what a stop of a stream is answered: it is refused where nothing may be read
abbrev pub stop_answer : StreamsState → ℕ → Result (Unit {0}) UpdateError
stop_answer s id = if is_closed s id then Err update_errors.ClosedStream else Ok tt

-- the peer is asked to stop, unless it reset the stream
abbrev pub with_stop : Option ℕ → ℕ → ℕ → Retransmits → Retransmits
with_stop (Some reset) id code p = p
with_stop None id code p = record p { stop_sending = p.stop_sending ++ (record { id = id; code = code }) ∷ [] }

-- where the final size is known, the part is done
abbrev pub stopped_if : Bool → StreamsState → ℕ → RecvHalf → StreamsState
stopped_if true s id h = recv_done (with_recv s id (stopped_now h)) id
stopped_if false s id h = with_recv s id (stopped_now h)

-- this end stops a part, if there is one that it hasn't stopped
abbrev pub stopped_at : Option RecvHalf → StreamsState → Retransmits → ℕ → ℕ → Streams
stopped_at None s p id code = streams_of s p
stopped_at (Some h) s p id code = if h.stopped then streams_of s p else settled (stopped_if (is_some h.final) s id h) (with_stop h.reset id code p)

-- what a stop of a stream with a code leaves
abbrev pub after_stop : StreamsState → Retransmits → ℕ → ℕ → Streams
after_stop s p id code = stopped_at (receiving_half s id) s p id code

-- ---- asking for a reset

-- the code of a half's reset, if it was reset; an error where it is done, or this end stopped it
abbrev pub reset_of : Option RecvHalf → Result (Option ℕ) ClosedStream
reset_of None = Err (record {})
reset_of (Some h) = if h.stopped then Err (record {}) else Ok h.reset

-- the code with which the peer reset a stream that is still read
abbrev pub received_reset_answer : StreamsState → ℕ → Result (Option ℕ) ClosedStream
received_reset_answer s id = reset_of (receiving_half s id)

-- a part whose reset is told is done
abbrev pub reset_told : Result (Option ℕ) ClosedStream → StreamsState → Retransmits → ℕ → Streams
reset_told (Ok (Some code)) s p id = settled (recv_done s id) p
reset_told (Ok None) s p id = streams_of s p
reset_told (Err e) s p id = streams_of s p

-- what asking for a reset of a stream leaves
abbrev pub after_received_reset : StreamsState → Retransmits → ℕ → Streams
after_received_reset s p id = reset_told (received_reset_answer s id) s p id
