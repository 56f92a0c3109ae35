-- The calls of the application at one end (RFC 9000, section 2.4): what each answers, and what it
-- leaves.
use Rattle.std.specs.Prelude.{ℕ, ◌-◌, ◌≡◌, ◌⊎◌, Bool, true, false, nat_lt, if◌then◌else◌, List, [], ◌∷◌, Option, Some, None, Result, Err, option_map}
use Rattle.quic_assembler.specs.declared.assembler.Chunk.{Chunk}
use Rattle.quic_machine.specs.declared.answers.Event.{Event}
use Rattle.quic_machine.specs.declared.answers.Event.TheVariants as events
use Rattle.quic_machine.specs.declared.answers.State.{State}
use Rattle.quic_machine.specs.declared.answers.State.TheVariants as states
use Rattle.quic_streams_parts.specs.declared.answers.StreamEvent.{StreamEvent}
use Rattle.quic_streams_parts.specs.declared.answers.ReadError.{ReadError}
use Rattle.quic_streams_parts.specs.declared.answers.ReadError.TheVariants as read_errors
use Rattle.quic_streams_state.specs.declared.state.StreamsState.{StreamsState}
use Rattle.quic_streams_state.specs.State.{Streams}
use Rattle.quic_streams_state.specs.Telling.{Telling}
use Rattle.quic_streams_state.specs.Telling as telling
use Rattle.quic_streams_state.specs.Reading.{Told, told_bytes, next_answer, told_by, after_next, after_read_begun, after_finalize}
use Rattle.quic_wire.specs.Value.{application_close}
use Rattle.quic_machine.specs.declared.answers.LostReason.TheVariants as reasons
use Rattle.quic_machine.specs.Closing.{Closing, ticked, loss_to_tell, after_told}
use Rattle.quic_machine.specs.Parts.{done_told}
use Rattle.quic_machine.specs.End.{End, with_closing, closing_by, with_messages, with_confirmation, with_ping}

-- whether an end sends and receives
abbrev pub is_open : State → Bool
is_open states.Open = true
is_open states.Closing = false
is_open states.Drained = false
is_open states.Failed = false

-- ---- ping (section 19.2)

-- the end after a call that asks for a PING: two before it goes are one
abbrev pub end_after_ping : End → End
end_after_ping e = with_ping e true

-- ---- close (section 10.2)

-- an open end closes, and tells its peer this code and this text; another stays as it is
abbrev pub closed_in : State → ℕ → ℕ → List ℕ → End → End
closed_in states.Open now code text e = closing_by reasons.Application (application_close (record { code = code; reason = text })) (with_closing e (ticked e.closing now))
closed_in state now code text e = e

-- the end after its application closed at a moment
abbrev pub end_after_close : ℕ → ℕ → List ℕ → End → End
end_after_close now code text e = closed_in e.closing.state now code text e

-- ---- events (sections 2.4 and 10)

-- what the application is told of streams and of the end: what happened to streams, and then that
-- the end is lost, once, and why
abbrev pub tells_of : Option StreamEvent → Closing → Option Event
tells_of None c = option_map events.Lost (loss_to_tell c)
tells_of (Some event) c = Some (events.Stream event)

-- what is told of streams next, and the streams that are left
abbrev pub streams_told : End → Telling
streams_told e = telling.polled e.streams

-- whether it is told next that a message came
abbrev pub tells_message : End → Bool
tells_message e = nat_lt 0 e.messages.to_tell

-- whether it is told next that the handshake is confirmed (RFC 9001, section 4.1.2), where no
-- message is told of
abbrev pub tells_done : End → Bool
tells_done e = e.confirmation.to_tell

-- what the application is told next: that messages came, before all else, and then that the
-- handshake is confirmed
abbrev pub end_tells : End → Option Event
end_tells e = if tells_message e then Some events.Message else (if tells_done e then Some events.HandshakeConfirmed else tells_of (streams_told e).answer e.closing)

-- what is left to tell of the end's loss once this was told of streams
abbrev pub closing_told : Option StreamEvent → Closing → Closing
closing_told None c = after_told (loss_to_tell c) c
closing_told (Some event) c = c

-- the end after the application was told that a message came
abbrev pub message_told : End → End
message_told e = with_messages e (record e.messages { to_tell = e.messages.to_tell - 1 })

-- the end after it was told that the handshake is confirmed
abbrev pub confirmation_told : End → End
confirmation_told e = with_confirmation e (done_told e.confirmation)

-- the end after it was told of streams, or of the end
abbrev pub others_told : End → End
others_told e = record e { streams = (streams_told e).state; closing = closing_told (streams_told e).answer e.closing }

-- the end after the application was told
abbrev pub end_after_event : End → End
end_after_event e = if tells_message e then message_told e else (if tells_done e then confirmation_told e else others_told e)

-- ---- read (section 2.2)

-- these may be the answers of so many `next`s of a read, which told this so far: each lacks memory,
-- or is what the streams answer then
abbrev pub AreNexts : Told → StreamsState → ℕ → List ℕ → List (Result (Option Chunk) ReadError) → Type 0
AreNexts told s id [] [] = Unit {0}
AreNexts told s id (most ∷ mosts) (answer ∷ answers) = ((answer ≡ next_answer told s id most) ⊎ (answer ≡ Err read_errors.Memory)) × AreNexts (told_by answer told) (after_next told answer s id most) id mosts answers
AreNexts told s id [] (answer ∷ answers) = ⊥
AreNexts told s id (most ∷ mosts) [] = ⊥

-- what they leave
abbrev pub after_nexts : Told → StreamsState → ℕ → List ℕ → List (Result (Option Chunk) ReadError) → StreamsState
after_nexts told s id (most ∷ mosts) (answer ∷ answers) = after_nexts (told_by answer told) (after_next told answer s id most) id mosts answers
after_nexts told s id mosts answers = s

-- what a read leaves that was begun, in order or not, and whose `next`s were answered so: limits
-- that grew wait to be told
abbrev pub after_reads : Streams → ℕ → Bool → List ℕ → List (Result (Option Chunk) ReadError) → Streams
after_reads t id ordered mosts answers = after_finalize (after_nexts told_bytes (after_read_begun t.state id ordered) id mosts answers) t.pending id
