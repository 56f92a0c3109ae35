-- What a run says of its ends over its lists alone: its events, their answers, the views behind
-- them, and the datagrams that each end gave.
use Rattle.std.specs.Prelude.{ℕ, zero, suc, ◌+◌, ◌<◌, ◌≤◌, ◌≡◌, ◌⊎◌, max, Bool, true, false, nat_le, ◌==◌, ◌&&◌, ◌||◌, not, if◌then◌else◌, List, [], ◌∷◌, ◌++◌, length, take, slice_get, Option, Some, None, Result, Ok, Err}
use Rattle.std.specs.List.{list_any}
use Rattle.quic_wire_core.specs.declared.stream_id.Side.{Side}
use Rattle.quic_wire_core.specs.declared.stream_id.Side.TheVariants.{Client, Server}
use Rattle.quic_wire_core.specs.StreamId.{other_side}
use Rattle.quic_wire.specs.Value.{FrameValue, StreamValue, ResetStreamValue, AckValue, ack, stream, handshake_done, reset_stream, stop_sending, max_stream_data}
use Rattle.quic_wire.specs.Items.{items}
use Rattle.quic_packet.specs.Datagram.{Opening}
use Rattle.quic_wire.specs.declared.frame.InvalidFrame.{InvalidFrame}
use Rattle.quic_assembler.specs.declared.assembler.Chunk.{Chunk}
use Rattle.quic_streams_parts.specs.declared.answers.ReadError.{ReadError}
use Rattle.quic_machine.specs.declared.answers.Event.TheVariants as events
use Rattle.quic_streams_parts.specs.declared.answers.StreamEvent.TheVariants.{Finished}
use Rattle.quic_machine.specs.declared.answers.DropReason.TheVariants as drops
use Rattle.quic_machine.specs.declared.answers.Received.TheVariants as receives
use Rattle.quic_machine.specs.declared.answers.State.{State}
use Rattle.quic_machine.specs.declared.answers.State.TheVariants as states
use Rattle.quic_machine.specs.declared.run.RunEvent.{RunEvent}
use Rattle.quic_machine.specs.declared.run.Call.{Call}
use Rattle.quic_machine.specs.declared.run.Call.TheVariants as calls
use Rattle.quic_machine.specs.declared.run.Answer.{Answer}
use Rattle.quic_machine.specs.declared.run.Answer.TheVariants as answers
use Rattle.quic_machine.specs.declared.run.View.{View}
use Rattle.quic_machine.specs.Ids.{own_id}
use Rattle.quic_machine.specs.Policy.{Policy}
use Rattle.quic_machine.specs.Opens.{own_id_length, opens}
use Rattle.quic_machine.specs.Machine.{World, Policies, end_at, fails, gave, Follows}

-- ---- a run

-- the keys of both ends, the ends that it began with, its events, their answers, the view behind
-- each, and the datagrams that each end gave
pub record Run : Type 0 where
  pub keys : Policies
  pub start : World
  pub events : List RunEvent
  pub answers : List Answer
  pub views : List View
  pub from_client : List (List ℕ)
  pub from_server : List (List ℕ)

-- the datagrams that an end gave, in their order
abbrev pub given_of : Run → Side → List (List ℕ)
given_of r Client = r.from_client
given_of r Server = r.from_server

-- ---- what was told at an end

-- a call, what it was answered, and the state of its end before it, as the view before it shows
pub record Told : Type 0 where
  pub call : Call
  pub answer : Answer
  pub state : State

-- whether both are the same side
abbrev pub same_side : Side → Side → Bool
same_side Client Client = true
same_side Server Server = true
same_side a b = false

-- the state of an end in a view
abbrev pub state_in : View → Side → State
state_in v Client = v.client.state
state_in v Server = v.server.state

-- what an event tells an end in this state: nothing, where its call is made at the other end
abbrev pub told_by : Side → State → RunEvent → Answer → List Told
told_by side state event a = if same_side event.side side then record { call = event.call; answer = a; state = state } ∷ [] else []

-- the calls at an end that were answered, in their order; the end began in this state
abbrev pub told_at : Side → State → List RunEvent → List Answer → List View → List Told
told_at side state [] answers views = []
told_at side state (event ∷ events) [] views = []
told_at side state (event ∷ events) (a ∷ answers) [] = []
told_at side state (event ∷ events) (a ∷ answers) (v ∷ views) = told_by side state event a ++ told_at side (state_in v side) events answers views

-- what was told at an end by the first so many answers
abbrev pub until : Run → Side → ℕ → List Told
until r side i = told_at side (end_at side r.start).closing.state r.events (take i r.answers) r.views

-- the state of an end behind so many views; it began in this one
abbrev pub state_behind : Side → State → ℕ → List View → State
state_behind side state zero views = state
state_behind side state (suc i) [] = state
state_behind side state (suc i) (v ∷ views) = state_behind side (state_in v side) i views

-- the state of an end behind the first so many events, as the views show it
abbrev pub state_at : Run → Side → ℕ → State
state_at r side i = state_behind side (end_at side r.start).closing.state i r.views

-- the first so many events of a run, with their answers and views, may leave the ends so
abbrev pub LeadsTo : Run → ℕ → World → Type 0
LeadsTo r i w = Follows r.keys r.start (take i r.events) (take i r.answers) (take i r.views) w

-- among the first so many answers no delivery, no poll and no timeout met want of memory; then no
-- end has failed, and each timeout was served
abbrev pub AreServed : Run → ℕ → Type 0
AreServed r i = list_any fails (take i r.answers) ≡ false

-- ---- what the application wrote and read

-- buffers, one behind another
abbrev pub joined : List (List ℕ) → List ℕ
joined [] = []
joined (b ∷ bs) = b ++ joined bs

-- the bytes that a call wrote on a stream: as many as were accepted
abbrev pub written_by : ℕ → Call → Answer → List ℕ
written_by id (calls.Write s bytes) (answers.Write (Ok count)) = if s == id then take count bytes else []
written_by id (calls.WriteChunks s buffers) (answers.WriteChunks (Ok w)) = if s == id then take w.bytes (joined buffers.items) else []
written_by id call a = []

-- the bytes that an end wrote on a stream, in their order
abbrev pub written : ℕ → List Told → List ℕ
written id [] = []
written id (t ∷ ts) = written_by id t.call t.answer ++ written id ts

-- whether a call ended a stream
abbrev pub ended_by : ℕ → Call → Answer → Bool
ended_by id (calls.Finish s) (answers.Finish (Ok done)) = s == id
ended_by id call a = false

-- whether an end ended a stream
abbrev pub ended : ℕ → List Told → Bool
ended id [] = false
ended id (t ∷ ts) = ended_by id t.call t.answer || ended id ts

-- the code with which a call reset a stream, where it did
abbrev pub reset_by : ℕ → Call → Answer → Option ℕ
reset_by id (calls.Reset s code) (answers.Reset (Ok done)) = if s == id then Some code else None
reset_by id call a = None

-- the first of two
abbrev pub first_of : Option ℕ → Option ℕ → Option ℕ
first_of (Some code) later = Some code
first_of None later = later

-- the code with which an end reset a stream, if it did
abbrev pub reset : ℕ → List Told → Option ℕ
reset id [] = None
reset id (t ∷ ts) = first_of (reset_by id t.call t.answer) (reset id ts)

-- whether a call said that the handshake is done, and was let (RFC 9000, section 19.20)
abbrev pub says_done : Call → Answer → Bool
says_done calls.HandshakeDone (answers.HandshakeDone (Ok done)) = true
says_done call a = false

-- whether an end said so
abbrev pub was_said_done : List Told → Bool
was_said_done told = list_any (λ t. says_done t.call t.answer) told

-- what a `next` of a read answers
abbrev pub Next : Type 0
Next = Result (Option Chunk) ReadError

-- the chunks that the nexts of a read gave
abbrev pub chunks_of : List Next → List Chunk
chunks_of [] = []
chunks_of (Ok (Some chunk) ∷ more) = chunk ∷ chunks_of more
chunks_of (Ok None ∷ more) = chunks_of more
chunks_of (Err e ∷ more) = chunks_of more

-- what the `next`s of a call answered on a stream
abbrev pub nexts_by : ℕ → Call → Answer → List Next
nexts_by id (calls.Read read) (answers.Read (Ok said)) = if read.id == id then said else []
nexts_by id call a = []

-- what the `next`s on a stream answered, in their order
abbrev pub nexts : ℕ → List Told → List Next
nexts id [] = []
nexts id (t ∷ ts) = nexts_by id t.call t.answer ++ nexts id ts

-- whether a call read a stream in no order
abbrev pub picks_by : ℕ → Call → Answer → Bool
picks_by id (calls.Read read) (answers.Read (Ok said)) = (read.id == id) && not read.ordered
picks_by id call a = false

-- whether a stream was read in order alone
abbrev pub only_in_order : ℕ → List Told → Bool
only_in_order id [] = true
only_in_order id (t ∷ ts) = not (picks_by id t.call t.answer) && only_in_order id ts

-- the chunks that an end read of a stream, in their order
abbrev pub reads : ℕ → List Told → List Chunk
reads id told = chunks_of (nexts id told)

-- the bytes of chunks, one behind another
abbrev pub bytes_of : List Chunk → List ℕ
bytes_of [] = []
bytes_of (c ∷ cs) = c.bytes ++ bytes_of cs

-- so many offsets from one on
abbrev pub offsets_from : ℕ → List ℕ → List ℕ
offsets_from offset [] = []
offsets_from offset (b ∷ bytes) = offset ∷ offsets_from (offset + 1) bytes

-- the offsets of the bytes of chunks
abbrev pub offsets_of : List Chunk → List ℕ
offsets_of [] = []
offsets_of (c ∷ cs) = offsets_from c.offset c.bytes ++ offsets_of cs

-- whether the nexts of a read told the end of the stream
abbrev pub tells_end : List Next → Bool
tells_end [] = false
tells_end (Ok (Some chunk) ∷ more) = tells_end more
tells_end (Ok None ∷ more) = true
tells_end (Err e ∷ more) = tells_end more

-- whether an end read the end of a stream
abbrev pub finished : ℕ → List Told → Bool
finished id told = tells_end (nexts id told)

-- the stream that a call opened or accepted
abbrev pub id_by : Call → Answer → Option ℕ
id_by (calls.Open dir) (answers.Open id) = id
id_by (calls.Accept dir) (answers.Accept id) = id
id_by call a = None

-- the stream that a call accepted
abbrev pub accepted_by : Call → Answer → Option ℕ
accepted_by (calls.Accept dir) (answers.Accept id) = id
accepted_by call a = None

-- an id before others, where there is one
abbrev pub and_id : Option ℕ → List ℕ → List ℕ
and_id None ids = ids
and_id (Some id) ids = id ∷ ids

-- the streams that an end opened or accepted
abbrev pub ids_of : List Told → List ℕ
ids_of [] = []
ids_of (t ∷ ts) = and_id (id_by t.call t.answer) (ids_of ts)

-- the streams that an end accepted
abbrev pub accepts : List Told → List ℕ
accepts [] = []
accepts (t ∷ ts) = and_id (accepted_by t.call t.answer) (accepts ts)

-- ---- what came

-- a packet: its number and its frames
pub record Packet : Type 0 where
  pub number : ℕ
  pub frames : List FrameValue

-- What came to an end, the latest first: the numbers of the packets that opened; the packets that
-- were taken; and, where one was refused, what could be read of it: the frames before the one at
-- fault are the first of these.
pub record Intake : Type 0 where
  pub opened : List ℕ
  pub took : List Packet
  pub part : Option Packet

-- nothing came
abbrev pub nothing_came : Intake
nothing_came = record { opened = []; took = []; part = None }

-- the number that is expected next: one above the greatest taken, or 0 (RFC 9000, A.3)
abbrev pub expected_behind : List Packet → ℕ
expected_behind [] = 0
expected_behind (p ∷ ps) = max (p.number + 1) (expected_behind ps)

-- whether a number is a duplicate behind others: one of them, or 257 or more below one (RFC 9000,
-- section 12.3, which names no number: 257 is our choice)
abbrev pub is_again : ℕ → List ℕ → Bool
is_again n numbers = list_any (λ m. (m == n) || nat_le (n + 257) m) numbers

-- the frames among the items of a payload
abbrev pub frames_of : List (Result FrameValue InvalidFrame) → List FrameValue
frames_of [] = []
frames_of (Ok f ∷ is) = f ∷ frames_of is
frames_of (Err e ∷ is) = frames_of is

-- the datagram that a call hands to its end; `given` are those that the other end gave
abbrev pub handed : List (List ℕ) → Call → Answer → Option (List ℕ)
handed given (calls.Deliver delivery) answers.NoDatagram = None
handed given (calls.Deliver delivery) a = slice_get given delivery.index
handed given call a = None

-- the id that a datagram was sent to, where each has the length of own ones: it stands behind the
-- first byte (RFC 9000, section 17.3.1)
abbrev pub destination : List ℕ → List ℕ
destination [] = []
destination (first ∷ rest) = take own_id_length rest

-- What a datagram opens to by its key alone, whichever id it was sent to: what it does at an end
-- that has that id, where this number is expected (section 12.2).
abbrev pub opens_by_key : Policy → ℕ → List ℕ → Option Opening
opens_by_key p expected d = opens p (destination d ∷ []) expected d

-- whether a delivery was answered that its datagram was sent to no id of the end's, or came from
-- where the end takes nothing
abbrev pub is_elsewhere : Answer → Bool
is_elsewhere (answers.Deliver (receives.Dropped drops.UnknownId)) = true
is_elsewhere (answers.Deliver (receives.Dropped drops.Address)) = true
is_elsewhere a = false

-- What a datagram opens to that is handed to an end, which took these packets before: to what it
-- does by its key, and to nothing where it was sent to no id of the end's, or came from where the
-- end takes nothing. The lists show no ids, so the answer says where that is.
abbrev pub came_open : Policy → List Packet → Answer → List ℕ → Option Opening
came_open p packets a d = if is_elsewhere a then None else opens_by_key p (expected_behind packets) d

-- whether a delivery closed its end: some frame of its packet was refused
abbrev pub is_refused : Answer → Bool
is_refused (answers.Deliver (receives.Closed error)) = true
is_refused a = false

-- the packet of an opening
abbrev pub packet_of : Opening → Packet
packet_of o = record { number = o.number; frames = frames_of (items o.payload) }

-- a packet that opened: a duplicate is nothing, and one that was refused isn't taken
abbrev pub and_opened : Option Opening → Answer → Intake → Intake
and_opened None a i = i
and_opened (Some o) a i =
    if is_again o.number i.opened then i
    else record {
      opened = o.number ∷ i.opened;
      took = (if is_refused a then i.took else packet_of o ∷ i.took);
      part = (if is_refused a then Some (packet_of o) else i.part);
    }

-- an open end is handed a datagram
abbrev pub and_handed : State → Option (List ℕ) → Policy → Answer → Intake → Intake
and_handed states.Open (Some d) p a i = and_opened (came_open p i.took a d) a i
and_handed states.Open None p a i = i
and_handed states.Closing d p a i = i
and_handed states.Drained d p a i = i
and_handed states.Failed d p a i = i

-- what came by one call more to an end with these keys; `given` are the datagrams that the other
-- end gave
abbrev pub and_told : Policy → List (List ℕ) → Told → Intake → Intake
and_told p given t i = and_handed t.state (handed given t.call t.answer) p t.answer i

-- what calls make of a value, one behind another
abbrev pub folded : {S : Type 0} → (Told → S → S) → List Told → S → S
folded step [] s = s
folded step (t ∷ ts) s = folded step ts (step t s)

-- x is in a list
abbrev pub In : {X : Type 0} → X → List X → Type 0
In x [] = ⊥
In x (y ∷ ys) = (x ≡ y) ⊎ In x ys

-- A STREAM frame was taken (RFC 9000, section 19.8).
pub record WasTaken (packets : List Packet) (frame : StreamValue) : Type 0 where
  pub packet : Packet
  pub was_taken : In packet packets
  pub carried : In (stream frame) packet.frames

-- A frame opens a stream of the peer's, and those of its kind below it (RFC 9000, sections 2.1 and
-- 3.2): STREAM, RESET_STREAM, STOP_SENDING and MAX_STREAM_DATA do.
abbrev pub OpensStream : FrameValue → ℕ → Type 0
OpensStream (stream f) id = f.id ≡ id
OpensStream (reset_stream f) id = f.id ≡ id
OpensStream (stop_sending f) id = f.id ≡ id
OpensStream (max_stream_data f) id = f.id ≡ id
OpensStream f id = ⊥

-- Such a frame of a stream was taken.
pub record WasNamed (packets : List Packet) (id : ℕ) : Type 0 where
  pub packet : Packet
  pub was_taken : In packet packets
  pub frame : FrameValue
  pub carried : In frame packet.frames
  pub opens : OpensStream frame id

-- An offset of a stream arrived: it stands in a frame that was taken.
pub record HasArrived (packets : List Packet) (id offset : ℕ) : Type 0 where
  pub frame : StreamValue
  pub taken : WasTaken packets frame
  pub of_stream : frame.id ≡ id
  pub from : frame.offset ≤ offset
  pub below : offset < frame.offset + length frame.bytes

-- The end of a stream arrived, behind so many bytes.
pub record EndHasArrived (packets : List Packet) (id size : ℕ) : Type 0 where
  pub frame : StreamValue
  pub taken : WasTaken packets frame
  pub of_stream : frame.id ≡ id
  pub fin : frame.fin ≡ true
  pub behind : frame.offset + length frame.bytes ≡ size

-- The reset of a stream arrived (RFC 9000, section 19.4).
pub record ResetHasArrived (packets : List Packet) (id : ℕ) : Type 0 where
  pub packet : Packet
  pub was_taken : In packet packets
  pub frame : ResetStreamValue
  pub carried : In (reset_stream frame) packet.frames
  pub of_stream : frame.id ≡ id

-- HANDSHAKE_DONE stands in a packet that was taken (section 19.20).
pub record DoneHasArrived (packets : List Packet) : Type 0 where
  pub packet : Packet
  pub was_taken : In packet packets
  pub carried : In handshake_done packet.frames

-- A number is that of a packet that was taken.
pub record IsTaken (packets : List Packet) (number : ℕ) : Type 0 where
  pub packet : Packet
  pub was_taken : In packet packets
  pub is : packet.number ≡ number

-- whether an ACK frame names a number: the number lies in one of its ranges (RFC 9000, section
-- 19.3.1)
abbrev pub names : AckValue → ℕ → Bool
names a n = list_any (λ r. nat_le r.0 n && nat_le n r.1) a.ranges

-- A number is named in an ACK frame that was taken.
pub record IsNamed (packets : List Packet) (number : ℕ) : Type 0 where
  pub packet : Packet
  pub was_taken : In packet packets
  pub frame : AckValue
  pub carried : In (ack frame) packet.frames
  pub named : names frame number ≡ true

-- ---- what the application was told

-- whether a call told that a stream is finished
abbrev pub finish_told_by : ℕ → Call → Answer → Bool
finish_told_by id calls.Event (answers.Event (Some (events.Stream (Finished s)))) = s == id
finish_told_by id call a = false

-- how often an application was told that a stream is finished
abbrev pub finishes_told : ℕ → List Told → ℕ
finishes_told id [] = 0
finishes_told id (t ∷ ts) = (if finish_told_by id t.call t.answer then 1 else 0) + finishes_told id ts

-- ---- what was given

-- how many datagrams an end gave
abbrev pub count_given : List Told → ℕ
count_given [] = 0
count_given (t ∷ ts) = (if gave t.answer then 1 else 0) + count_given ts

-- the datagrams that an end gave by the first so many answers
abbrev pub given_until : Run → Side → ℕ → List (List ℕ)
given_until r side i = take (count_given (until r side i)) (given_of r side)

-- the bytes of a datagram, if there is one
abbrev pub size_of : Option (List ℕ) → ℕ
size_of None = 0
size_of (Some datagram) = length datagram

-- how many bytes a call hands to its end, whatever is made of them: none where there is no such
-- datagram, nor where an injection would open, which isn't made
abbrev pub bytes_in_call : List (List ℕ) → Call → Answer → ℕ
bytes_in_call given (calls.Inject injection) (answers.Inject a) = length injection.bytes
bytes_in_call given call a = size_of (handed given call a)

-- the greatest number that frames acknowledge, or 0
abbrev pub acknowledged_in : List FrameValue → ℕ
acknowledged_in [] = 0
acknowledged_in (ack a ∷ fs) = max a.largest (acknowledged_in fs)
acknowledged_in (f ∷ fs) = acknowledged_in fs

-- the greatest number that packets acknowledge, or 0: what a number is cut against (RFC 9000, A.2)
abbrev pub acknowledged : List Packet → ℕ
acknowledged [] = 0
acknowledged (p ∷ ps) = max (acknowledged_in p.frames) (acknowledged ps)

-- the id that the peer of an end began with
abbrev pub first_id_of_peer : Run → Side → List ℕ
first_id_of_peer r side = own_id (end_at (other_side side) r.start).ids.living
