-- Where a call may lack memory.
use Rattle.std.specs.Prelude.{ℕ, ◌≡◌, ◌≢◌, ◌⊎◌, Bool, true, false, nat_lt, List, [], ◌∷◌, length, slice_get, Option, Some, None, IsSome, IfSome, Result, Ok, Err}
use Rattle.quic_assembler.specs.declared.assembler.Chunk.{Chunk}
use Rattle.quic_machine.specs.Arrival.{delivered_by}
use Rattle.quic_machine.specs.declared.answers.Failed.{Failed}
use Rattle.quic_machine.specs.declared.answers.Received.{Received}
use Rattle.quic_machine.specs.declared.answers.Received.TheVariants as receives
use Rattle.quic_machine.specs.declared.answers.State.TheVariants as states
use Rattle.quic_machine.specs.declared.answers.Transmit.{Transmit}
use Rattle.quic_streams_parts.specs.declared.answers.WriteError.TheVariants as write_errors
use Rattle.quic_streams_parts.specs.declared.answers.FinishError.TheVariants as finish_errors
use Rattle.quic_streams_parts.specs.declared.answers.UpdateError.TheVariants as update_errors
use Rattle.quic_streams_parts.specs.declared.answers.ReadableError.TheVariants as readable_errors
use Rattle.quic_streams_parts.specs.declared.answers.ReadError.{ReadError}
use Rattle.quic_streams_parts.specs.declared.answers.ReadError.TheVariants as read_errors
use Rattle.quic_machine.specs.declared.run.Call.{Call}
use Rattle.quic_machine.specs.declared.run.Delivery.{Delivery}
use Rattle.quic_machine.specs.declared.run.Call.TheVariants as calls
use Rattle.quic_machine.specs.declared.run.Answer.{Answer}
use Rattle.quic_machine.specs.declared.run.Answer.TheVariants as answers
use Rattle.quic_machine.specs.Policy.{Policy}
use Rattle.quic_streams_parts.specs.Table.{at}
use Rattle.quic_streams_parts.specs.Lacking.{read_may_lack}
use Rattle.quic_retransmits.specs.Retransmits.{Retransmits, has_id}
use Rattle.quic_streams_state.specs.declared.state.StreamsState.{StreamsState}
use Rattle.quic_streams_state.specs.State.{sending_half, receiving_half, room}
use Rattle.quic_streams_state.specs.SendLacking.{WriteMayLack}
use Rattle.quic_streams_state.specs.Writing.{write_answer, finish_answer, reset_answer, set_priority_answer}
use Rattle.quic_send_buffer.specs.Source.{bytes_of}
use Rattle.quic_streams_state.specs.Reading.{Told, told_bytes, told_by, read_answer, after_read_begun, after_next, is_closed}
use Rattle.quic_time.specs.Timers.{has_come}
use Rattle.quic_machine.specs.Closing.{ticked}
use Rattle.quic_streams_state.specs.Waiting.{is_empty}
use Rattle.quic_spaces.specs.Records.{first_record}
use Rattle.quic_machine.specs.Tracking.{lost_by}
use Rattle.quic_machine.specs.End.{End, with_closing}
use Rattle.quic_machine.specs.Acked.{verdict}
use Rattle.quic_machine.specs.Calls.{is_open}
use Rattle.quic_machine.specs.MessageCalls.{MessageCallLacks}
use Rattle.quic_machine.specs.IdFrames.{NextIdLacks}
use Rattle.quic_machine.specs.Receive.{received}
use Rattle.quic_machine.specs.Poll.{polled}

-- frames of a datagram are taken
abbrev pub TakesFrames : Received → Type 0
TakesFrames receives.Taken = Unit {0}
TakesFrames (receives.Closed error) = Unit {0}
TakesFrames (receives.Dropped reason) = ⊥
TakesFrames receives.Failed = ⊥

-- a datagram is given, or the end had failed before
abbrev pub GivesOrHasFailed : Result (Option Transmit) Failed → Type 0
GivesOrHasFailed (Ok (Some transmit)) = Unit {0}
GivesOrHasFailed (Ok None) = ⊥
GivesOrHasFailed (Err failed) = Unit {0}

-- a `next` cuts a chunk off a part, or gives one out of its order
abbrev pub NextLacks : Told → StreamsState → ℕ → ℕ → Type 0
NextLacks told s id most = (told ≡ told_bytes) × IfSome (receiving_half s id) (λ h. read_may_lack h.arrived most ≡ true)

-- of the `next`s of a read, each that lacks memory does so
abbrev pub NextsLack : Told → StreamsState → ℕ → List ℕ → List (Result (Option Chunk) ReadError) → Type 0
NextsLack told s id (most ∷ mosts) (answer ∷ answers) = (answer ≡ Err read_errors.Memory → NextLacks told s id most) × NextsLack (told_by answer told) (after_next told answer s id most) id mosts answers
NextsLack told s id mosts answers = Unit {0}

-- a read that is allowed is begun: what its end may queue is put there before, unless it waits
-- already; and a half comes into use at the first unordered read
abbrev pub ReadLacks : StreamsState → Retransmits → ℕ → Bool → Type 0
ReadLacks s p id ordered = (read_answer s id ordered ≡ Ok tt) × ((has_id id p.max_stream_data ≡ false) ⊎ ((ordered ≡ false) × (at s.receiving.halves.live id ≡ None)))

-- a write at an open end takes bytes, or notes that it is blocked
abbrev pub WriteLacks : Bool → StreamsState → ℕ → ℕ → Type 0
WriteLacks is_open s id len = (is_open ≡ true) × WriteMayLack (write_answer true s id len) (sending_half s id) (room s.sending)

-- a call on streams that says that memory lacks is one that takes some: it is a write or a read
-- such as above, or it isn't refused
abbrev pub StreamCallLacks : Bool → StreamsState → Retransmits → Call → Answer → Type 0
StreamCallLacks is_open s p (calls.Write id bytes) (answers.Write answer) = answer ≡ Err write_errors.Memory → WriteLacks is_open s id (length bytes)
StreamCallLacks is_open s p (calls.WriteChunks id chunks) (answers.WriteChunks answer) = answer ≡ Err write_errors.Memory → WriteLacks is_open s id (bytes_of chunks.items)
StreamCallLacks is_open s p (calls.Finish id) (answers.Finish answer) = answer ≡ Err finish_errors.Memory → finish_answer s id ≡ Ok tt
StreamCallLacks is_open s p (calls.Reset id code) (answers.Reset answer) = answer ≡ Err update_errors.Memory → reset_answer s id ≡ Ok tt
StreamCallLacks is_open s p (calls.SetPriority id priority) (answers.SetPriority answer) = answer ≡ Err update_errors.Memory → set_priority_answer s id ≡ Ok tt
StreamCallLacks is_open s p (calls.Read read) (answers.Read (Ok nexts)) = NextsLack told_bytes (after_read_begun s read.id read.ordered) read.id read.nexts.items nexts
StreamCallLacks is_open s p (calls.Read read) (answers.Read (Err error)) = error ≡ readable_errors.Memory → ReadLacks s p read.id read.ordered
StreamCallLacks is_open s p (calls.Stop id code) (answers.Stop answer) = answer ≡ Err update_errors.Memory → is_closed s id ≡ false
StreamCallLacks is_open s p call a = Unit {0}

-- there is such a datagram, and its frames are taken
abbrev pub DeliveryTakes : Policy → End → Delivery → Option (List ℕ) → Type 0
DeliveryTakes p e delivery None = ⊥
DeliveryTakes p e delivery (Some d) = TakesFrames (received p e (delivered_by false delivery) d).answer

-- a probe takes what has to be sent again of a packet
abbrev pub MovesRecord : End → Type 0
MovesRecord e = (nat_lt 0 e.tracking.probes ≡ true) × (is_empty e.waiting.frames e.streams ≡ true) × IsSome (first_record e.streams e.tracking.packets)

-- a datagram is composed, or a probe of an open end takes what it carries; or the end had failed
-- before
abbrev pub PollTakes : Policy → End → ℕ → Type 0
PollTakes p e now = GivesOrHasFailed (polled p e now).answer ⊎ ((e.closing.state ≡ states.Open) × MovesRecord e)

-- the loss timer of an open end expires at a moment, and a packet is lost by time; or the end had
-- failed before
abbrev pub LosesOrHasFailed : End → ℕ → Type 0
LosesOrHasFailed e now =
    ((e.closing.state ≡ states.Open) × (has_come e.timers.loss_detection (ticked e.closing now).clock ≡ true) × IsSome e.tracking.loss_time × (lost_by (verdict (with_closing e (ticked e.closing now))) e.tracking.packets ≢ []))
    ⊎ (e.closing.state ≡ states.Failed)

-- a call that says that memory lacks is one that takes some: a call on streams such as above, or
-- one that queues a message or retirements; a datagram is composed, packets are lost, or frames are
-- taken
abbrev pub LacksWhere : Policy → End → List (List ℕ) → Call → Answer → Type 0
LacksWhere p e theirs (calls.Send message makes_room) a = MessageCallLacks e (calls.Send message makes_room) a
LacksWhere p e theirs calls.UseNextId a = NextIdLacks e a
LacksWhere p e theirs (calls.Poll now) (answers.Poll (Err x)) = PollTakes p e now
LacksWhere p e theirs (calls.Timeout now) (answers.Timeout (Err x)) = LosesOrHasFailed e now
LacksWhere p e theirs (calls.Deliver delivery) (answers.Deliver receives.Failed) = DeliveryTakes p e delivery (slice_get theirs delivery.index)
LacksWhere p e theirs call a = StreamCallLacks (is_open e.closing.state) e.streams e.waiting.frames call a

-- a call for which a run takes memory of its own, before it makes it: a datagram that is given is
-- kept, a message that is sent, a text of a close and what comes are copied, and so are the answers
-- of a read
abbrev pub TakesOfItsOwn : List (List ℕ) → Call → Type 0
TakesOfItsOwn theirs (calls.Read read) = Unit {0}
TakesOfItsOwn theirs (calls.Send message makes_room) = Unit {0}
TakesOfItsOwn theirs (calls.Close close) = Unit {0}
TakesOfItsOwn theirs (calls.Poll now) = Unit {0}
TakesOfItsOwn theirs (calls.Deliver delivery) = IsSome (slice_get theirs delivery.index)
TakesOfItsOwn theirs (calls.Inject injection) = Unit {0}
TakesOfItsOwn theirs call = ⊥
