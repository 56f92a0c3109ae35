-- The STREAM frames that go into a datagram (RFC 9000, sections 2.2, 2.3 and 19.8).
use Rattle.std.specs.Prelude.{ℕ, zero, suc, ◌+◌, ◌-◌, Bool, nat_le, if◌then◌else◌, List, [], ◌∷◌, ◌++◌, length, Option, Some, None}
use Rattle.quic_wire.specs.Value.{StreamValue}
use Rattle.quic_wire.specs.Writing.{stream_spelling, width_of}
use Rattle.quic_send_buffer.specs.Buffered.{writes_length}
use Rattle.quic_send_buffer.specs.declared.stream_meta.StreamMeta.{StreamMeta}
use Rattle.quic_streams_parts.specs.Table.{at}
use Rattle.quic_streams_parts.specs.SendHalf.{SendHalf, frame_of, frame_counts, half_after, turned, meta_of}
use Rattle.quic_streams_parts.specs.Queue.{first_queued}
use Rattle.quic_streams_state.specs.State.{StreamsState}
use Rattle.quic_streams_state.specs.Writing.{put_queued}

-- the frames so far, how they are written behind what stands before them, and the streams
pub record Sent : Type 0 where
  pub frames : List StreamValue
  pub bytes : List ℕ
  pub state : StreamsState

-- how many bytes have to be left of a datagram at least, so that a frame of a stream goes: its
-- type, and its id, offset and length in eight bytes each
abbrev pub least_stream_room : ℕ
least_stream_room = 25

-- how many bytes are left behind the type and the id of a frame, where so many may be written in
-- all
abbrev pub stream_room : ℕ → Sent → ℕ → ℕ
stream_room most d id = most - length d.bytes - (1 + width_of id)

-- the streams after a frame of one went
abbrev pub after_frame_sent : Bool → StreamsState → ℕ → SendHalf → ℕ → StreamsState
after_frame_sent fair s id h room = put_queued s id (turned fair s.sending.queue id (half_after h room))

-- the frame of a part goes
abbrev pub frame_sent : Bool → ℕ → Sent → ℕ → SendHalf → Sent
frame_sent fair most d id h =
    let left = stream_room most d id in
    record {
      frames = d.frames ++ frame_of id h left ∷ [];
      bytes = d.bytes ++ stream_spelling (writes_length h.buffer left) (frame_of id h left);
      state = after_frame_sent fair d.state id h left;
    }

-- the part whose frame goes next: of the stream that stands first in the queue, where enough bytes
-- are left for a frame
abbrev pub next_stream : ℕ → Sent → Option ℕ
next_stream most d = if nat_le (length d.bytes + least_stream_room) most then first_queued d.state.sending.queue else None

-- its frame goes, if it brings a byte or the end, and more behind it
abbrev pub frame_if : Option SendHalf → (Sent → Sent) → Bool → ℕ → Sent → ℕ → Sent
frame_if None more fair most d id = d
frame_if (Some h) more fair most d id = if frame_counts h (stream_room most d id) then more (frame_sent fair most d id h) else d

-- the frame of the stream that goes next, if there is one, and more behind it
abbrev pub frame_and_more : Option ℕ → (Sent → Sent) → Bool → ℕ → Sent → Sent
frame_and_more None more fair most d = d
frame_and_more (Some id) more fair most d = frame_if (at d.state.sending.halves.live id) more fair most d id

-- frames go while a stream has something to send and bytes are left, so many at most
abbrev pub stream_frames : ℕ → Bool → ℕ → Sent → Sent
stream_frames zero fair most d = d
stream_frames (suc n) fair most d = frame_and_more (next_stream most d) (stream_frames n fair most) fair most d

-- frames go while a stream has something to send and bytes are left, `most` in all: each takes one
-- at least
abbrev pub with_stream_frames : Bool → ℕ → Sent → Sent
with_stream_frames fair most d = stream_frames most fair most d

-- no frame yet
abbrev pub no_stream_frames : StreamsState → Sent
no_stream_frames s = record { frames = []; bytes = []; state = s }

-- the frames that go where so many bytes are left of a datagram, and what they leave
abbrev pub stream_frames_in : Bool → ℕ → StreamsState → Sent
stream_frames_in fair left s = with_stream_frames fair left (no_stream_frames s)

-- ---- the frame that goes next

-- a stream, if its part is in use and the part's frame brings a byte or the end, where so many
-- bytes are left of a datagram
abbrev pub stream_if : Option SendHalf → ℕ → ℕ → Option ℕ
stream_if None left id = None
stream_if (Some h) left id = if frame_counts h (left - (1 + width_of id)) then Some id else None

-- the same of a stream that there may be
abbrev pub counting : Option ℕ → StreamsState → ℕ → Option ℕ
counting None s left = None
counting (Some id) s left = stream_if (at s.sending.halves.live id) left id

-- the stream that stands first, where so many bytes are left of a datagram that a frame may go
abbrev pub first_in : StreamsState → ℕ → Option ℕ
first_in s left = if nat_le least_stream_room left then first_queued s.sending.queue else None

-- the stream whose frame goes next, where so many bytes are left of a datagram
abbrev pub going : StreamsState → ℕ → Option ℕ
going s left = counting (first_in s left) s left

-- what frames carry, with that of a part behind it, if the part is in use
abbrev pub noted_in : Option SendHalf → ℕ → ℕ → List StreamMeta → List StreamMeta
noted_in None id room noted = noted
noted_in (Some h) id room noted = noted ++ meta_of (frame_of id h room) ∷ []
