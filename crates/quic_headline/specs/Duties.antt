-- The ledger of duties: where what has to reach the peer is until it arrives (RFC 9000, section
-- 13.3). A duty waits, is under way, or has arrived.
use Rattle.std.specs.Prelude.{ℕ, ◌<◌, ◌≤◌, ◌≡◌, ◌⊎◌, Bool, true, false, ◌==◌, ◌||◌, List, [], ◌∷◌, length, Option, Some, None, IsSome}
use Rattle.std.specs.List.{list_any}
use Rattle.std.specs.Option.{is_none}
use Rattle.quic_wire_core.specs.declared.stream_id.Side.{Side}
use Rattle.quic_wire_core.specs.declared.stream_id.Dir.{Dir}
use Rattle.quic_wire_core.specs.StreamId.{other_side}
use Rattle.quic_wire_core.specs.declared.shared.IssuedCid.{IssuedCid}
use Rattle.quic_wire.specs.Value.{FrameValue, StopSendingValue, NewConnectionIdValue, max_data, max_stream_data, max_streams, new_connection_id, retire_connection_id, AckFrequencyValue, ack_frequency}
use Rattle.quic_wire.specs.FrameView.{is_one_way}
use Rattle.quic_send_buffer.specs.declared.stream_meta.StreamMeta.{StreamMeta}
use Rattle.quic_send_buffer.specs.Buffered.{is_lost, is_unsent}
use Rattle.quic_streams_parts.specs.Table.{Table, at}
use Rattle.quic_machine.specs.Tracking.{Carried, TrackedPacket}
use Rattle.quic_streams_parts.specs.SendHalf.{SendHalf}
use Rattle.quic_streams_parts.specs.RecvHalf.{RecvHalf}
use Rattle.quic_streams_parts.specs.Dirs.{of}
use Rattle.quic_retransmits.specs.Retransmits.{Retransmits, has_id}
use Rattle.quic_ids.specs.CidState.{is_in}
use Rattle.quic_streams_state.specs.Limits.{can_send_flow_control}
use Rattle.quic_machine.specs.End.{End}
use Rattle.quic_machine.specs.Poll.{waits}
use Rattle.quic_machine.specs.Machine.{World, end_at}
use Rattle.quic_headline.specs.Runs.{Run, Told, Packet, In, until, AreServed, LeadsTo, written, ended, reset, HasArrived, EndHasArrived, ResetHasArrived, was_said_done, DoneHasArrived}
use Rattle.quic_headline.specs.Observer.{Sent, took, sents_until}
use Rattle.quic_headline.specs.InUse.{in_use, TellsStays}
use Rattle.quic_headline.specs.Amounts.{was_stopped}
use Rattle.quic_headline.specs.Unread.{stopped}

-- what an end limits: the bytes of all streams, those of one, or how many streams of a direction
-- are opened (sections 4.1 and 4.6)
pub data Limited : Type 0 where
  AllData : Limited
  StreamData : (id : ℕ) → Limited
  StreamCount : (dir : Dir) → Limited

-- an offset of a stream, the end of one, or its reset; that the peer is to stop sending on one;
-- that an id of the peer with a number is retired, and an own id of a number; a limit, with its
-- value; the request of a number of how often to acknowledge; and that the handshake is done
pub data Duty : Type 0 where
  Offset : (id : ℕ) (offset : ℕ) → Duty
  Fin : (id : ℕ) → Duty
  Reset : (id : ℕ) → Duty
  Stop : (id : ℕ) → Duty
  Retire : (number : ℕ) → Duty
  NewId : (number : ℕ) → Duty
  Limit : (what : Limited) (value : ℕ) → Duty
  Frequency : (number : ℕ) → Duty
  Done : Duty

-- ---- what is owed

-- the frame that says a limit (sections 19.9 to 19.11)
abbrev pub limit_frame : Limited → ℕ → FrameValue
limit_frame AllData value = max_data value
limit_frame (StreamData id) value = max_stream_data (record { id = id; limit = value })
limit_frame (StreamCount dir) value = max_streams (record { one_way = is_one_way dir; count = value })

-- A frame stands in one of these datagrams.
pub record WasGiven (sents : List Sent) (frame : FrameValue) : Type 0 where
  pub sent : Sent
  pub among : In sent sents
  pub carried : In frame sent.frames

-- whether a limit matters still: that of a stream does while the stream is in use, its end isn't
-- known, and this end didn't stop it
abbrev pub Matters : End → Limited → Type 0
Matters e AllData = Unit {0}
Matters e (StreamData id) = can_send_flow_control e.streams id ≡ true
Matters e (StreamCount dir) = Unit {0}

-- The greatest limit that an end said so far, in the datagrams that it gave, while that matters: a
-- greater one takes its place.
pub record IsSaid (e : End) (own : List Sent) (what : Limited) (value : ℕ) : Type 0 where
  pub said : WasGiven own (limit_frame what value)
  pub greatest : (other : ℕ) → WasGiven own (limit_frame what other) → other ≤ value
  pub matters : Matters e what

-- A request of a number stands in one of these datagrams, in ACK_FREQUENCY (QUIC Acknowledgement
-- Frequency, section 4).
pub record IsAsked (own : List Sent) (number : ℕ) : Type 0 where
  pub frame : AckFrequencyValue
  pub asked : WasGiven own (ack_frequency frame)
  pub of_number : frame.sequence ≡ number

-- whether the final size of a stream is unknown to an end that receives on it: it knows that of a
-- half that is done (section 4.5)
abbrev pub lacks_size : Option RecvHalf → Bool
lacks_size None = false
lacks_size (Some half) = is_none half.final

-- what an end owes that uses the peer's id of a number, gave these datagrams and was told this: of
-- each stream that it didn't reset, each offset that was written, and the end if it was finished;
-- each reset; STOP_SENDING of each stream that it stopped, while the final size isn't known
-- (section 3.5); the retirement of each id of the peer below that in use (section 5.1.2), by the
-- calls at it, and by what it has, which says more of an end that isn't open; each own id but the
-- first, while it lives (section 5.1.1); each limit; each request, in the place of which a newer
-- one may come; and that the handshake is done, where its application said so (section 19.20)
abbrev pub IsOwed : ℕ → End → List Sent → List Told → Duty → Type 0
IsOwed used e own told (Offset id offset) = (reset id told ≡ None) × (offset < length (written id told))
IsOwed used e own told (Fin id) = (reset id told ≡ None) × (ended id told ≡ true)
IsOwed used e own told (Reset id) = IsSome (reset id told)
IsOwed used e own told (Stop id) = (stopped id told ≡ true) × (lacks_size (at e.streams.receiving.halves.live id) ≡ true)
IsOwed used e own told (Retire number) = (number < used) ⊎ (number < e.ids.peer.active)
IsOwed used e own told (NewId number) = (1 ≤ number) × (is_in number e.ids.own.living ≡ true)
IsOwed used e own told (Limit what value) = IsSaid e own what value
IsOwed used e own told (Frequency number) = IsAsked own number
IsOwed used e own told Done = was_said_done told ≡ true

-- ---- it waits

-- what a half shows, if it is there
abbrev pub on_half : (SendHalf → Bool) → Option SendHalf → Bool
on_half test None = false
on_half test (Some half) = test half

-- whether a reset of a stream is among some
abbrev pub has_reset : ℕ → List (ℕ × ℕ) → Bool
has_reset id resets = list_any (λ r. r.0 == id) resets

-- whether STOP_SENDING of a stream is
abbrev pub has_stop : ℕ → List StopSendingValue → Bool
has_stop id stops = list_any (λ s. s.id == id) stops

-- whether the retirement of a number is
abbrev pub has_retirement : ℕ → List ℕ → Bool
has_retirement number numbers = list_any (λ n. n == number) numbers

-- whether the id of a number is
abbrev pub has_new_id : ℕ → List IssuedCid → Bool
has_new_id number cids = list_any (λ cid. cid.sequence == number) cids

-- whether a limit waits to be said, as it is then: no less than before
abbrev pub limit_waits : Retransmits → Limited → Bool
limit_waits p AllData = p.max_data
limit_waits p (StreamData id) = has_id id p.max_stream_data
limit_waits p (StreamCount dir) = of dir p.max_stream_id

-- whether it is to go: an offset that is lost or was never sent, or an end that waits
abbrev pub is_due : End → Duty → Bool
is_due e (Offset id offset) = on_half (λ h. is_lost h.buffer offset || is_unsent h.buffer offset) (at e.streams.sending.halves.live id)
is_due e (Fin id) = on_half (λ h. h.end_waits) (at e.streams.sending.halves.live id)
is_due e (Reset id) = has_reset id e.waiting.frames.reset_stream
is_due e (Stop id) = has_stop id e.waiting.frames.stop_sending
is_due e (Retire number) = has_retirement number e.waiting.frames.retire_cids
is_due e (NewId number) = has_new_id number e.waiting.frames.new_cids
is_due e (Limit what value) = limit_waits e.waiting.frames what
is_due e (Frequency number) = e.waiting.frames.ack_frequency
is_due e Done = e.waiting.frames.handshake_done

-- It waits to go. What waits is queued: the end has something to send.
pub record Waits (e : End) (duty : Duty) : Type 0 where
  pub due : is_due e duty ≡ true
  pub queued : waits e ≡ true

-- ---- it is under way

-- a fact of one at least of a list
abbrev pub AnyIn : {X : Type 0} → (X → Type 0) → List X → Type 0
AnyIn P [] = ⊥
AnyIn P (x ∷ xs) = P x ⊎ AnyIn P xs

-- a frame of a stream carries it
abbrev pub Carries : StreamMeta → Duty → Type 0
Carries frame (Offset id offset) = (frame.id ≡ id) × (frame.offsets.start ≤ offset) × (offset < frame.offsets.end)
Carries frame (Fin id) = (frame.id ≡ id) × (frame.fin ≡ true)
Carries frame duty = ⊥

-- it stands in what a datagram carried
abbrev pub StandsIn : Carried → Duty → Type 0
StandsIn carried (Reset id) = has_reset id carried.retransmits.reset_stream ≡ true
StandsIn carried (Stop id) = has_stop id carried.retransmits.stop_sending ≡ true
StandsIn carried (Retire number) = has_retirement number carried.retransmits.retire_cids ≡ true
StandsIn carried (NewId number) = has_new_id number carried.retransmits.new_cids ≡ true
StandsIn carried Done = carried.retransmits.handshake_done ≡ true
StandsIn carried duty = AnyIn (λ frame. Carries frame duty) carried.stream_frames

-- it stands in one of these, which are neither acknowledged nor lost yet
abbrev pub IsCarried : Table TrackedPacket → Duty → Type 0
IsCarried packets duty = AnyIn (λ p. StandsIn p.1.carried duty) packets

-- A datagram that was given, and is one of these, has a frame.
pub record IsInFlight (own : List Sent) (packets : Table TrackedPacket) (frame : FrameValue) : Type 0 where
  pub sent : Sent
  pub among : In sent own
  pub carried : In frame sent.frames
  pub packet : TrackedPacket
  pub tracked : In (sent.number, packet) packets

-- A datagram that was given, and is one of these, has a request that is as new, or newer, and that
-- goes again if it is lost.
pub record IsRequested (own : List Sent) (packets : Table TrackedPacket) (number : ℕ) : Type 0 where
  pub frame : AckFrequencyValue
  pub newer : number ≤ frame.sequence
  pub flies : IsInFlight own packets (ack_frequency frame)
  pub kept : flies.packet.carried.retransmits.ack_frequency ≡ true

-- it stands in a datagram that is neither acknowledged nor lost yet; a limit with its value
abbrev pub IsUnderWay : List Sent → Table TrackedPacket → Duty → Type 0
IsUnderWay own packets (Limit what value) = IsInFlight own packets (limit_frame what value)
IsUnderWay own packets (Frequency number) = IsRequested own packets number
IsUnderWay own packets duty = IsCarried packets duty

-- ---- it has arrived

-- A limit arrived that is as great, or greater.
pub record LimitHasArrived (packets : List Packet) (what : Limited) (value : ℕ) : Type 0 where
  pub packet : Packet
  pub was_taken : In packet packets
  pub limit : ℕ
  pub carried : In (limit_frame what limit) packet.frames
  pub enough : value ≤ limit

-- An id was told under a number, in a NEW_CONNECTION_ID frame that was taken (section 19.15).
pub record WasToldId (packets : List Packet) (number : ℕ) (id : List ℕ) : Type 0 where
  pub packet : Packet
  pub was_taken : In packet packets
  pub frame : NewConnectionIdValue
  pub carried : In (new_connection_id frame) packet.frames
  pub of_number : frame.sequence ≡ number
  pub is : frame.id ≡ id

-- A number stands in a RETIRE_CONNECTION_ID frame that was taken (section 19.16).
pub record WasRetired (packets : List Packet) (number : ℕ) : Type 0 where
  pub packet : Packet
  pub was_taken : In packet packets
  pub carried : In (retire_connection_id number) packet.frames

-- A request that is as new, or newer, stands in an ACK_FREQUENCY frame that was taken.
pub record HasAsked (packets : List Packet) (number : ℕ) : Type 0 where
  pub packet : Packet
  pub was_taken : In packet packets
  pub frame : AckFrequencyValue
  pub carried : In (ack_frequency frame) packet.frames
  pub newer : number ≤ frame.sequence

-- it stood in a packet that was taken
abbrev pub HasCome : List Packet → List Told → Duty → Type 0
HasCome packets told (Offset id offset) = HasArrived packets id offset
HasCome packets told (Fin id) = EndHasArrived packets id (length (written id told))
HasCome packets told (Reset id) = ResetHasArrived packets id
HasCome packets told (Stop id) = was_stopped id packets ≡ true
HasCome packets told (Retire number) = WasRetired packets number
HasCome packets told (NewId number) = (id : List ℕ) × WasToldId packets number id
HasCome packets told (Limit what value) = LimitHasArrived packets what value
HasCome packets told (Frequency number) = HasAsked packets number
HasCome packets told Done = DoneHasArrived packets

-- ---- where it is

-- a duty waits at the end, or is under way in a tracked packet, or has come at the peer
abbrev pub IsSomewhere : End → List Sent → List Packet → List Told → Duty → Type 0
IsSomewhere e own packets told duty = Waits e duty ⊎ IsUnderWay own e.tracking.packets duty ⊎ HasCome packets told duty

-- so it is of each duty, at both ends
abbrev pub DutiesAt : Run → ℕ → World → Type 0
DutiesAt r i w = (side : Side) (stays : ℕ → Bool) (duty : Duty) → TellsStays r side stays → IsOwed (in_use r stays side i) (end_at side w) (sents_until r side i) (until r side i) duty → IsSomewhere (end_at side w) (sents_until r side i) (took r (other_side side) i) (until r side i) duty

-- at each place before which no delivery, no poll and no timeout met want of memory
abbrev pub DutiesStand : Run → Type 0
DutiesStand r = (i : ℕ) (w : World) → AreServed r i → LeadsTo r i w → DutiesAt r i w
