-- Where calls on what this end sends may lack memory.
use Rattle.std.specs.Prelude.{◌≡◌, ◌⊎◌, ℕ, ◌<◌, Bool, false, nat_lt, ◌==◌, ◌&&◌, ◌||◌, if◌then◌else◌, Option, Some, None, Result, Ok, Err}
use Rattle.std.specs.Option.{is_none}
use Rattle.quic_send_buffer.specs.declared.stream_meta.StreamMeta.{StreamMeta}
use Rattle.quic_streams_parts.specs.declared.answers.WriteError.{WriteError}
use Rattle.quic_streams_parts.specs.declared.answers.WriteError.TheVariants as write_errors
use Rattle.quic_streams_parts.specs.Table.{at}
use Rattle.quic_streams_parts.specs.SendHalf.{SendHalf, HasSent, was_said}
use Rattle.quic_streams_state.specs.State.{StreamsState}
use Rattle.quic_streams_state.specs.Taking.{is_used_up}

-- the sending part of a stream isn't in use
abbrev pub is_idle : StreamsState → ℕ → Bool
is_idle s id = is_none (at s.sending.halves.live id)

-- whether that the write of a part is blocked is noted already: it is one that the connection
-- blocks, or STREAM_DATA_BLOCKED said its own limit
abbrev pub is_noted : ℕ → SendHalf → Bool
is_noted room h = if room == 0 then h.blocked else was_said h.said h.limit

-- a write that is answered so on a part takes bytes, or notes that it is blocked
abbrev pub WriteMayLack : Result ℕ WriteError → Option SendHalf → ℕ → Type 0
WriteMayLack (Ok n) o room = 0 < n
WriteMayLack (Err write_errors.Blocked) None room = ⊥
WriteMayLack (Err write_errors.Blocked) (Some h) room = is_noted room h ≡ false
WriteMayLack (Err (write_errors.Stopped code)) o room = ⊥
WriteMayLack (Err write_errors.ClosedStream) o room = ⊥
WriteMayLack (Err write_errors.Memory) o room = ⊥

-- a limit is above the one before, and the part takes bytes again by it, or comes into use
abbrev pub limit_may_lack : StreamsState → ℕ → ℕ → SendHalf → Bool
limit_may_lack s id limit h = nat_lt h.limit limit && (is_used_up h || is_idle s id)

-- a frame was acknowledged or lost of which some was sent, or of a part that isn't in the queue
abbrev pub FrameMayLack : StreamMeta → SendHalf → Type 0
FrameMayLack m h = HasSent h m ⊎ (h.place ≡ None)
