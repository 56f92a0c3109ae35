-- What writes to streams answer and leave, their end, resets and priorities (RFC 9000, sections
-- 2.2, 2.3, 3.1, 3.5 and 4.1).
use Rattle.std.specs.Prelude.{ℕ, zero, suc, ℤ, nat_le, ◌+◌, ◌-◌, Bool, true, false, ◌==◌, ◌&&◌, ◌||◌, not, if◌then◌else◌, List, [], ◌∷◌, ◌++◌, length, take, Option, Some, None, Result, Ok, Err}
use Rattle.std.specs.Option.{is_some}
use Rattle.quic_streams_parts.specs.declared.answers.Written.{Written}
use Rattle.quic_streams_parts.specs.declared.answers.WriteError.{WriteError}
use Rattle.quic_streams_parts.specs.declared.answers.WriteError.TheVariants as write_errors
use Rattle.quic_streams_parts.specs.declared.answers.FinishError.{FinishError}
use Rattle.quic_streams_parts.specs.declared.answers.ClosedStream.{ClosedStream}
use Rattle.quic_streams_parts.specs.declared.answers.UpdateError.{UpdateError}
use Rattle.quic_streams_parts.specs.declared.answers.UpdateError.TheVariants as update_errors
use Rattle.quic_send_buffer.specs.Source.{bytes_of}
use Rattle.quic_streams_parts.specs.SendHalf.{SendHalf, was_said, written_to, finish_of, Queued, requeued}
use Rattle.quic_retransmits.specs.Retransmits.{Retransmits, with_id}
use Rattle.quic_streams_state.specs.State.{StreamsState, Streams, streams_of, sending_half, with_send, room}
use Rattle.quic_streams_state.specs.Sends.{with_queued, grown_half, chunks_grown_half, finished_half, reset_half}
use Rattle.quic_streams_state.specs.Limits.{can_send_data_blocked}
use Rattle.quic_streams_state.specs.Taking.{joined}

-- the sending part of a stream has another value, and the queue follows
abbrev pub put_queued : StreamsState → ℕ → Queued → StreamsState
put_queued s id q = record s { sending = with_queued s.sending s.side id q }

-- the sending part has another value, and is in the queue while it has something to send
abbrev pub replaced : StreamsState → ℕ → SendHalf → StreamsState
replaced s id h = put_queued s id (requeued s.sending.queue id h)

-- ---- write

-- what a write of so many bytes is answered, where the end is open or isn't
abbrev pub write_answer : Bool → StreamsState → ℕ → ℕ → Result ℕ WriteError
write_answer true s id len = written_to (sending_half s id) (room s.sending) len
write_answer false s id len = Err write_errors.Blocked

-- bytes that were accepted; none leave all as it was
abbrev pub grown_by : SendHalf → StreamsState → ℕ → List ℕ → StreamsState
grown_by h s id bytes = record s { sending = grown_half h s.sending s.side id bytes }

-- bytes that were accepted on a part, if there is one
abbrev pub accepted_at : Option SendHalf → StreamsState → ℕ → List ℕ → StreamsState
accepted_at None s id bytes = s
accepted_at (Some h) s id bytes = if length bytes == 0 then s else grown_by h s id bytes

-- whether the limit on all streams is used up, and isn't the one that DATA_BLOCKED said last: each
-- is said once, and again only where that is lost (sections 4.1, 13.3 and 19.12)
abbrev pub is_newly_used_up : StreamsState → Bool
is_newly_used_up s = can_send_data_blocked s && not (was_said s.sending.said s.sending.limit)

-- DATA_BLOCKED waits where the peer's limit is newly used up
abbrev pub with_data_blocked : Bool → Retransmits → Retransmits
with_data_blocked blocked p = record p { data_blocked = p.data_blocked || blocked }

-- the connection leaves no room: the stream is told once it does
abbrev pub blocked_by_all : StreamsState → Retransmits → ℕ → SendHalf → Streams
blocked_by_all s p id h = streams_of (joined s id h) (with_data_blocked (is_newly_used_up s) p)

-- the stream's own limit leaves no room: STREAM_DATA_BLOCKED waits, unless it said that limit last;
-- the part is in use then, so that it keeps which one that is (section 19.13)
abbrev pub blocked_by_own : StreamsState → Retransmits → ℕ → SendHalf → Streams
blocked_by_own s p id h = if was_said h.said h.limit then streams_of s p
    else streams_of (with_send s id h) (record p { stream_data_blocked = with_id id p.stream_data_blocked })

-- a write on a part is blocked: by the connection, or by the stream's own limit
abbrev pub blocked_at : Option SendHalf → StreamsState → Retransmits → ℕ → Streams
blocked_at None s p id = streams_of s p
blocked_at (Some h) s p id = if room s.sending == 0 then blocked_by_all s p id h else blocked_by_own s p id h

-- what a write leaves, by its answer
abbrev pub written_by : Result ℕ WriteError → StreamsState → Retransmits → ℕ → List ℕ → Streams
written_by (Ok n) s p id bytes = streams_of (accepted_at (sending_half s id) s id (take n bytes)) p
written_by (Err write_errors.Blocked) s p id bytes = blocked_at (sending_half s id) s p id
written_by (Err (write_errors.Stopped code)) s p id bytes = streams_of s p
written_by (Err write_errors.ClosedStream) s p id bytes = streams_of s p
written_by (Err write_errors.Memory) s p id bytes = streams_of s p

-- an end that isn't open changes nothing
abbrev pub after_write : Bool → Result ℕ WriteError → StreamsState → Retransmits → ℕ → List ℕ → Streams
after_write true answer s p id bytes = written_by answer s p id bytes
after_write false answer s p id bytes = streams_of s p

-- ---- write of several buffers, each a piece of its own

-- how many buffers so many bytes use up, those without a byte too
abbrev pub used_up : ℕ → List (List ℕ) → ℕ
used_up n [] = 0
used_up n (c ∷ cs) = if nat_le (length c) n then 1 + used_up (n - length c) cs else 0

-- what a write of buffers is answered, by the answer to a write of their bytes
abbrev pub chunks_of : Result ℕ WriteError → List (List ℕ) → Result Written WriteError
chunks_of (Ok n) cs = Ok (record { bytes = n; chunks = used_up n cs })
chunks_of (Err e) cs = Err e

-- as one write of all their bytes
abbrev pub write_chunks_answer : Bool → StreamsState → ℕ → List (List ℕ) → Result Written WriteError
write_chunks_answer is_open s id cs = chunks_of (write_answer is_open s id (bytes_of cs)) cs

-- so many bytes of the buffers were accepted on a part
abbrev pub chunks_grown_by : SendHalf → StreamsState → ℕ → ℕ → List (List ℕ) → StreamsState
chunks_grown_by h s id n cs = record s { sending = chunks_grown_half h s.sending s.side id n cs }

-- so many bytes of the buffers were accepted on a part, if there is one
abbrev pub chunks_accepted_at : Option SendHalf → StreamsState → ℕ → ℕ → List (List ℕ) → StreamsState
chunks_accepted_at None s id n cs = s
chunks_accepted_at (Some h) s id zero cs = s
chunks_accepted_at (Some h) s id (suc n) cs = chunks_grown_by h s id (suc n) cs

-- what a write of buffers leaves, by its answer
abbrev pub chunks_written_by : Result Written WriteError → StreamsState → Retransmits → ℕ → List (List ℕ) → Streams
chunks_written_by (Ok w) s p id cs = streams_of (chunks_accepted_at (sending_half s id) s id w.bytes cs) p
chunks_written_by (Err e) s p id cs = written_by (Err e) s p id []

-- what a write of buffers leaves, where the end is open or isn't
abbrev pub after_write_chunks : Bool → Result Written WriteError → StreamsState → Retransmits → ℕ → List (List ℕ) → Streams
after_write_chunks true answer s p id cs = chunks_written_by answer s p id cs
after_write_chunks false answer s p id cs = streams_of s p

-- ---- finish

-- what a finish of a stream is answered, where memory suffices
abbrev pub finish_answer : StreamsState → ℕ → Result (Unit {0}) FinishError
finish_answer s id = finish_of (sending_half s id)

-- the end of a part waits to go, if there is such a part
abbrev pub ended_at : Option SendHalf → StreamsState → ℕ → StreamsState
ended_at None s id = s
ended_at (Some h) s id = record s { sending = finished_half h s.sending s.side id }

-- what a finish leaves, by its answer
abbrev pub finished_by : Result (Unit {0}) FinishError → StreamsState → ℕ → StreamsState
finished_by (Ok x) s id = ended_at (sending_half s id) s id
finished_by (Err e) s id = s

-- what a finish of a stream leaves
abbrev pub after_finish : StreamsState → ℕ → StreamsState
after_finish s id = finished_by (finish_answer s id) s id

-- ---- reset (section 3.1)

-- whether there is no such part, or it was reset
abbrev pub is_reset_at : Option SendHalf → Bool
is_reset_at None = true
is_reset_at (Some h) = is_some h.reset

-- there is no such part, or it was reset
abbrev pub reset_answer : StreamsState → ℕ → Result (Unit {0}) UpdateError
reset_answer s id = if is_reset_at (sending_half s id) then Err update_errors.ClosedStream else Ok tt

-- RESET_STREAM waits, and nothing else of the stream
abbrev pub reset_at : Option SendHalf → StreamsState → Retransmits → ℕ → ℕ → Streams
reset_at None s p id code = streams_of s p
reset_at (Some h) s p id code = if is_some h.reset then streams_of s p else streams_of (record s { sending = reset_half h s.sending s.side id }) (record p { reset_stream = p.reset_stream ++ (id, code) ∷ [] })

-- what a reset of a stream with a code leaves
abbrev pub after_reset : StreamsState → Retransmits → ℕ → ℕ → Streams
after_reset s p id code = reset_at (sending_half s id) s p id code

-- ---- priorities (section 2.3), and whether the peer stopped the stream (section 3.5)

-- what a part is asked, and an error where there is no such part
abbrev pub of_half : {A : Type 0} → (SendHalf → A) → Option SendHalf → Result A ClosedStream
of_half f None = Err (record {})
of_half f (Some h) = Ok (f h)

-- the priority of a stream, unless its sending part is unknown or done
abbrev pub priority_answer : StreamsState → ℕ → Result ℤ ClosedStream
priority_answer s id = of_half (λ h. h.priority) (sending_half s id)

-- the code with which the peer stopped a stream, if it did
abbrev pub stopped_answer : StreamsState → ℕ → Result (Option ℕ) ClosedStream
stopped_answer s id = of_half (λ h. h.stopped) (sending_half s id)

-- whether a part may be changed: it is refused where there is none
abbrev pub changes_at : Option SendHalf → Result (Unit {0}) UpdateError
changes_at None = Err update_errors.ClosedStream
changes_at (Some h) = Ok tt

-- what a call that sets a stream's priority is answered
abbrev pub set_priority_answer : StreamsState → ℕ → Result (Unit {0}) UpdateError
set_priority_answer s id = changes_at (sending_half s id)

-- it counts when the stream is queued next
abbrev pub priority_at : Option SendHalf → StreamsState → ℕ → ℤ → StreamsState
priority_at None s id priority = s
priority_at (Some h) s id priority = with_send s id (record h { priority = priority })

-- what a call that sets a stream's priority leaves
abbrev pub after_set_priority : StreamsState → ℕ → ℤ → StreamsState
after_set_priority s id priority = priority_at (sending_half s id) s id priority
