-- The sending part of a stream (RFC 9000, sections 2.2, 3.1, 4.1 and 13.3).
use Rattle.std.specs.Prelude.{ℕ, ℤ, pos, ◌+◌, ◌-◌, ◌^◌, ◌≤◌, ◌<◌, min, Bool, true, false, nat_lt, ◌==◌, ◌&&◌, ◌||◌, not, if◌then◌else◌, List, length, slice_range, Option, Some, None, unwrap_or, Result, Ok, Err}
use Rattle.std.specs.Option.{is_some, is_none}
use Rattle.quic_wire.specs.Value.{StreamValue}
use Rattle.quic_send_buffer.specs.Buffered.{Buffered, nothing_written, written, next_start, sent_end, writes_length, has_unsent, is_fully_acked, after_write, after_writes, after_poll, after_ack, after_loss}
use Rattle.quic_send_buffer.specs.declared.stream_meta.StreamMeta.{StreamMeta}
use Rattle.quic_streams_parts.specs.declared.send.FrameMeta.{FrameMeta}
use Rattle.quic_streams_parts.specs.Queue.{Place, Queue, rank_of, after_push, after_remove}
use Rattle.quic_streams_parts.specs.declared.answers.WriteError.{WriteError}
use Rattle.quic_streams_parts.specs.declared.answers.WriteError.TheVariants as write_errors
use Rattle.quic_streams_parts.specs.declared.answers.FinishError.{FinishError}
use Rattle.quic_streams_parts.specs.declared.answers.FinishError.TheVariants as finish_errors

-- what was written and may have to go; how far the peer lets it come; its priority; whether it is
-- finished, whether its end waits to go, and whether its end is acknowledged; the final size that
-- was told, if it was reset; the code with which the peer stopped it, if it did; and whether it is
-- among those whose write the connection blocked; the limit that STREAM_DATA_BLOCKED said last, if
-- one went; and its place among the streams with something to send, while it has something
pub record SendHalf : Type 0 where
  pub buffer : Buffered
  pub limit : ℕ
  pub priority : ℤ
  pub finished : Bool
  pub end_waits : Bool
  pub end_acked : Bool
  pub reset : Option ℕ
  pub stopped : Option ℕ
  pub blocked : Bool
  pub said : Option ℕ
  pub place : Option Place

-- a half on which nothing was done
abbrev pub new_send_half : ℕ → SendHalf
new_send_half limit = record { buffer = nothing_written; limit = limit; priority = pos 0; finished = false; end_waits = false; end_acked = false; reset = None; stopped = None; blocked = false; said = None; place = None }

-- whether this limit is the one that a frame said last, which says that a limit is used up
abbrev pub was_said : Option ℕ → ℕ → Bool
was_said None limit = false
was_said (Some said) limit = said == limit

-- how many bytes were written on a half
abbrev pub written_on : SendHalf → ℕ
written_on h = unwrap_or h.reset (written h.buffer)

-- how many bytes the peer still lets come
abbrev pub room_on : SendHalf → ℕ
room_on h = h.limit - written_on h

-- whether more may be written: neither its end nor a reset was told (the state "Ready" or "Send" of
-- section 3.1)
abbrev pub is_ready : SendHalf → Bool
is_ready h = not (h.finished || is_some h.reset)

-- whether a half has something to send: bytes that are lost or were never sent, or its end
abbrev pub has_pending : SendHalf → Bool
has_pending h = has_unsent h.buffer || h.end_waits

-- whether all of a half is acknowledged, its end too (the state "Data Recvd")
abbrev pub is_acked : SendHalf → Bool
is_acked h = is_none h.reset && (h.finished && (h.end_acked && is_fully_acked h.buffer))

-- ---- writing

-- what a half takes of so many bytes, where all streams together have so much room
abbrev pub taken_by : SendHalf → ℕ → ℕ → Result ℕ WriteError
taken_by h room len = if room_on h == 0 then Err write_errors.Blocked else Ok (min len (min room (room_on h)))

-- the same, unless the peer stopped it
abbrev pub taken_unless : Option ℕ → SendHalf → ℕ → ℕ → Result ℕ WriteError
taken_unless (Some code) h room len = Err (write_errors.Stopped code)
taken_unless None h room len = taken_by h room len

-- what a write of so many bytes is answered on an open end, in this order: there is no such half;
-- the connection leaves no room; it is finished or reset; the peer stopped it; its own limit leaves
-- no room
abbrev pub written_to : Option SendHalf → ℕ → ℕ → Result ℕ WriteError
written_to None room len = Err write_errors.ClosedStream
written_to (Some h) room len = if room == 0 then Err write_errors.Blocked else (if is_ready h then taken_unless h.stopped h room len else Err write_errors.ClosedStream)

-- these bytes go behind those that were written on a half
abbrev pub grown : SendHalf → List ℕ → SendHalf
grown h bytes = record h { buffer = after_write h.buffer bytes }

-- these buffers go behind what was written on a half, each a piece of its own
abbrev pub grown_all : SendHalf → List (List ℕ) → SendHalf
grown_all h cs = record h { buffer = after_writes h.buffer cs }

-- ---- its end, a reset (RFC 9000, section 3.1) and a stop (section 3.5)

-- what a finish is answered, unless the peer stopped the half
abbrev pub finish_unless : Option ℕ → SendHalf → Result (Unit {0}) FinishError
finish_unless (Some code) h = Err (finish_errors.Stopped code)
finish_unless None h = if is_ready h then Ok tt else Err finish_errors.ClosedStream

-- what a finish is answered, in this order: there is no such half; the peer stopped it; it is
-- finished or reset
abbrev pub finish_of : Option SendHalf → Result (Unit {0}) FinishError
finish_of None = Err finish_errors.ClosedStream
finish_of (Some h) = finish_unless h.stopped h

-- the half after its end
abbrev pub ended : SendHalf → SendHalf
ended h = record h { finished = true; end_waits = true }

-- the half after a reset: nothing more of it goes, and nothing of it is kept
abbrev pub reset_now : SendHalf → SendHalf
reset_now h = record h { buffer = nothing_written; end_waits = false; reset = Some (written_on h) }

-- ---- what goes (RFC 9000, section 19.8)

-- whether a frame up to an offset has the end: that of a finished half that reaches its final size
abbrev pub reaches_end : SendHalf → ℕ → Bool
reaches_end h end = is_none h.reset && (h.finished && (end == written h.buffer))

-- the frame that a half sends where so many bytes are left behind type and id
abbrev pub frame_of : ℕ → SendHalf → ℕ → StreamValue
frame_of id h room =
    let end = sent_end h.buffer room in
    record { id = id; offset = next_start h.buffer; fin = reaches_end h end; bytes = slice_range h.buffer.kept (next_start h.buffer - h.buffer.base) (end - h.buffer.base) }

-- whether that frame brings something: a byte, or the end
abbrev pub frame_counts : SendHalf → ℕ → Bool
frame_counts h room = nat_lt (next_start h.buffer) (sent_end h.buffer room) || reaches_end h (sent_end h.buffer room)

-- the half after that frame went
abbrev pub half_after : SendHalf → ℕ → SendHalf
half_after h room = record h { buffer = after_poll h.buffer room; end_waits = h.end_waits && not (reaches_end h (sent_end h.buffer room)) }

-- ---- what was acknowledged or lost (RFC 9000, section 13.3)

-- the half after a frame of it was acknowledged
abbrev pub half_acked : SendHalf → StreamMeta → SendHalf
half_acked h m = record h { buffer = after_ack h.buffer m.offsets.start m.offsets.end; end_acked = h.end_acked || m.fin }

-- the half after a frame of it was lost: what isn't acknowledged goes again, and its end too, even
-- where another frame brought it
abbrev pub half_lost : SendHalf → StreamMeta → SendHalf
half_lost h m = record h { buffer = after_loss h.buffer m.offsets.start m.offsets.end; end_waits = h.end_waits || m.fin }

-- ---- the queue follows a part: it is in it while it has something to send, with the priority that it had when this began

-- a sending half, and the queue in which its stream stands or doesn't
pub record Queued : Type 0 where
  pub half : SendHalf
  pub queue : Queue

-- a half that stands there
abbrev pub standing : Queue → SendHalf → Option Place → Queued
standing q h place = record { half = record h { place = place }; queue = q }

-- it comes into the queue, or leaves it
abbrev pub enqueued : Queue → ℕ → SendHalf → Queued
enqueued q id h = standing (after_push q (rank_of h.priority) id) h (Some (rank_of h.priority, q.next))

-- it leaves the queue, and has no place there
abbrev pub dequeued : Queue → SendHalf → Place → Queued
dequeued q h place = standing (after_remove q place) h None

-- where it stood, and whether it has something to send
abbrev pub requeued_at : Option Place → Bool → Queue → ℕ → SendHalf → Queued
requeued_at None true q id h = enqueued q id h
requeued_at None false q id h = standing q h None
requeued_at (Some place) true q id h = standing q h (Some place)
requeued_at (Some place) false q id h = dequeued q h place

-- a half is in the queue while it has something to send
abbrev pub requeued : Queue → ℕ → SendHalf → Queued
requeued q id h = requeued_at h.place (has_pending h) q id h

-- after a frame of it went, it goes behind its equals if streams take turns, and else keeps its
-- place
abbrev pub turned_at : Option Place → Queue → ℕ → SendHalf → Queued
turned_at None q id h = enqueued q id h
turned_at (Some place) q id h = enqueued (after_remove q place) id h

-- a half and the queue after a frame of it went, where streams take turns or don't
abbrev pub turned : Bool → Queue → ℕ → SendHalf → Queued
turned fair q id h = if fair && has_pending h then turned_at h.place q id h else requeued q id h

-- ---- what a frame says of its bytes

-- the offsets of a STREAM frame, and whether the stream ends behind them
abbrev pub meta_of : StreamValue → StreamMeta
meta_of f = record { id = f.id; offsets = record { start = f.offset; end = f.offset + length f.bytes }; fin = f.fin }

-- what the next frame of a part says, with so much room behind its type and id
abbrev pub frame_meta : SendHalf → ℕ → FrameMeta
frame_meta h room = record {
  offsets = record { start = next_start h.buffer; end = sent_end h.buffer room };
  fin = reaches_end h (sent_end h.buffer room);
  has_length = writes_length h.buffer room;
}

-- its bytes are some of those that are kept, and end below the greatest offset (RFC 9000, section
-- 4.5)
pub record HasFrame (h : SendHalf) (room : ℕ) : Type 0 where
  pub kept : h.buffer.base ≤ next_start h.buffer
  pub ordered : next_start h.buffer ≤ sent_end h.buffer room
  pub bounded : sent_end h.buffer room ≤ written h.buffer
  pub small : written h.buffer < 2 ^ 62

-- some of what a frame carries was sent
abbrev pub HasSent : SendHalf → StreamMeta → Type 0
HasSent h frame = frame.offsets.start < min frame.offsets.end h.buffer.unsent

-- a final size is below 2^62
abbrev pub is_size : Option ℕ → Bool
is_size None = true
is_size (Some size) = nat_lt size (2 ^ 62)
