-- The receiving part of a stream (RFC 9000, sections 2.2, 3.2, 4.1 and 4.5).
use Rattle.std.specs.Prelude.{ℕ, ◌+◌, ◌-◌, ◌/◌, ◌^◌, max, min, Bool, true, false, nat_lt, nat_le, ◌==◌, ◌&&◌, ◌||◌, not, if◌then◌else◌, [], length, Option, Some, None, Result, Ok, Err}
use Rattle.std.specs.Option.{is_some}
use Rattle.quic_wire.specs.Value.{StreamValue}
use Rattle.quic_assembler.specs.Arrived.{Arrived, after_insert, after_read, after_ordering, given_by, bytes_read_of, runs_of}
use Rattle.quic_assembler.specs.declared.assembler.Chunk.{Chunk}
use Rattle.quic_streams_parts.specs.declared.answers.ReadError.{ReadError}
use Rattle.quic_streams_parts.specs.declared.answers.ReadError.TheVariants as read_errors
use Rattle.quic_streams_parts.specs.declared.answers.ReadableError.{ReadableError}
use Rattle.quic_streams_parts.specs.declared.answers.ReadableError.TheVariants as readable_errors

-- what has arrived; the offset behind the greatest that arrived; the final size where it is known;
-- how far the peer was told that it may come; whether this end stopped it; and the code with which
-- the peer reset it, if it did
pub record RecvHalf : Type 0 where
  pub arrived : Arrived
  pub seen : ℕ
  pub final : Option ℕ
  pub announced : ℕ
  pub stopped : Bool
  pub reset : Option ℕ

-- nothing has arrived
abbrev pub nothing_arrived : Arrived
nothing_arrived = record { read = 0; unordered = false; picked = []; parts = [] }

-- a half on which nothing was done
abbrev pub new_recv_half : ℕ → RecvHalf
new_recv_half announced = record { arrived = nothing_arrived; seen = 0; final = None; announced = announced; stopped = false; reset = None }

-- the greatest offset of a stream, and the greatest limit on bytes
abbrev pub greatest_offset : ℕ
greatest_offset = 2 ^ 62 - 1

-- how many bytes of a half count as consumed: those that were read; or where nothing more is read,
-- all up to the greatest offset that arrived
abbrev pub credit : RecvHalf → ℕ
credit h = if h.stopped || is_some h.reset then h.seen else bytes_read_of h.arrived

-- how far the peer may come on a half with such a window
abbrev pub raised_on : ℕ → RecvHalf → ℕ
raised_on window h = min (bytes_read_of h.arrived + window) greatest_offset

-- whether the peer may still be told how far it may come: its end isn't known, nor did this end
-- stop it (RFC 9000, section 4.1)
abbrev pub takes_limits : RecvHalf → Bool
takes_limits h = not (h.stopped || is_some h.final)

-- a limit is told anew once it grew by this, for a window or a count
abbrev pub least_growth : ℕ → ℕ
least_growth window = max (window / 8) 1

-- whether the limit of a half grew so far that it is told anew
abbrev pub limit_grew : ℕ → RecvHalf → Bool
limit_grew window h = takes_limits h && nat_le (h.announced + least_growth window) (raised_on window h)

-- ---- what comes (RFC 9000, sections 19.4 and 19.8)

-- the offset behind a frame's last byte
abbrev pub end_of : StreamValue → ℕ
end_of f = f.offset + length f.bytes

-- whether bytes up to an offset, with the end or without, go past a known final size, name another
-- one, or one below an offset that arrived (RFC 9000, section 4.5)
abbrev pub breaks_final : Option ℕ → ℕ → ℕ → Bool → Bool
breaks_final (Some size) seen end fin = nat_lt size end || (fin && not (end == size))
breaks_final None seen end fin = fin && nat_lt end seen

-- the final size that is known then
abbrev pub final_after : RecvHalf → ℕ → Bool → Option ℕ
final_after h end fin = if fin then Some end else h.final

-- the half that knows of offsets up to one, and whether its end stands there
abbrev pub seen_to : RecvHalf → ℕ → Bool → RecvHalf
seen_to h end fin = record h { seen = max h.seen end; final = final_after h end fin }

-- the half with a frame's bytes
abbrev pub with_frame : RecvHalf → StreamValue → RecvHalf
with_frame h f = record h { arrived = after_insert h.arrived f.offset f.bytes; seen = max h.seen (end_of f); final = final_after h (end_of f) f.fin }

-- the half that this end stopped with a frame's offsets
abbrev pub with_offsets_of : RecvHalf → StreamValue → RecvHalf
with_offsets_of h f = record h { seen = max h.seen (end_of f); final = final_after h (end_of f) f.fin }

-- the half after a frame: one that this end stopped takes its offsets alone, one that the peer
-- reset takes nothing
abbrev pub after_frame : RecvHalf → StreamValue → RecvHalf
after_frame h f = if h.stopped then with_offsets_of h f else (if is_some h.reset then h else with_frame h f)

-- nothing waits any more
abbrev pub cleared : RecvHalf → RecvHalf
cleared h = record h { arrived = record h.arrived { parts = [] } }

-- the half at a reset with this code and final size
abbrev pub reset_by : RecvHalf → ℕ → ℕ → RecvHalf
reset_by h code size = record (cleared h) { seen = size; final = Some size; reset = Some code }

-- the half after RESET_STREAM: one that this end stopped takes its size alone, a second one changes
-- nothing
abbrev pub after_reset_stream : RecvHalf → ℕ → ℕ → RecvHalf
after_reset_stream h code size = if h.stopped then record h { seen = size; final = Some size } else (if is_some h.reset then h else reset_by h code size)

-- how many pieces of a stream may wait where so many bytes more than were read may come on it: one
-- for each 1,024 of them, and 2048 at least, our choice, as section 21.7 names no number
abbrev pub most_pieces : ℕ → ℕ
most_pieces window = max 2048 (window / 1024)

-- more pieces wait than may
abbrev pub has_too_many : ℕ → RecvHalf → Bool
has_too_many window h = nat_lt (most_pieces window) (runs_of h.arrived.parts)

-- ---- reading (RFC 9000, section 2.2) and stopping (section 3.5)

-- whether an order of reading is allowed: none in order after one that wasn't
abbrev pub is_illegal : RecvHalf → Bool → Bool
is_illegal h ordered = ordered && h.arrived.unordered

-- what a read is answered, in this order: there is no such half, or this end stopped it; it would
-- be in order after one that wasn't
abbrev pub readable : Option RecvHalf → Bool → Result (Unit {0}) ReadableError
readable None ordered = Err readable_errors.ClosedStream
readable (Some h) ordered = if h.stopped then Err readable_errors.ClosedStream else (if is_illegal h ordered then Err readable_errors.IllegalOrderedRead else Ok tt)

-- the half after a read began
abbrev pub begun : RecvHalf → Bool → RecvHalf
begun h ordered = record h { arrived = after_ordering h.arrived ordered }

-- whether all bytes up to the final size are read
abbrev pub is_read_up : Option ℕ → ℕ → Bool
is_read_up None read = false
is_read_up (Some size) read = size == read

-- no byte waits that may be given: its end, or nothing yet
abbrev pub at_end : Bool → Result (Option Chunk) ReadError
at_end true = Ok None
at_end false = Err read_errors.Blocked

-- what a read gives: a chunk that waits, the end, or nothing yet
abbrev pub chunk_or_end : Option Chunk → RecvHalf → Result (Option Chunk) ReadError
chunk_or_end (Some chunk) h = Ok (Some chunk)
chunk_or_end None h = at_end (is_read_up h.final (bytes_read_of h.arrived))

-- the same, unless the peer reset it
abbrev pub next_unless : Option ℕ → RecvHalf → ℕ → Result (Option Chunk) ReadError
next_unless (Some code) h most = Err (read_errors.Reset code)
next_unless None h most = chunk_or_end (given_by h.arrived most) h

-- what a `next` of at most so many bytes gives of a half
abbrev pub next_of : RecvHalf → ℕ → Result (Option Chunk) ReadError
next_of h most = next_unless h.reset h most

-- the half after bytes were read
abbrev pub read_on : RecvHalf → ℕ → RecvHalf
read_on h most = record h { arrived = after_read h.arrived most }

-- the half after this end stopped it
abbrev pub stopped_now : RecvHalf → RecvHalf
stopped_now h = record (cleared h) { stopped = true }

-- what a `next` leaves of a part, by its answer
abbrev pub half_after_next : Result (Option Chunk) ReadError → RecvHalf → ℕ → RecvHalf
half_after_next (Ok (Some chunk)) h most = read_on h most
half_after_next (Ok None) h most = h
half_after_next (Err e) h most = h
