-- What every run of two honest ends keeps (RFC 9000, sections 2.2, 2.3 and 12.3): the headline,
-- over the run's lists alone, and in some clauses over the ends that are left.
use Rattle.std.specs.Prelude.{ℕ, ◌+◌, ◌-◌, ◌^◌, ◌<◌, ◌≤◌, ◌≡◌, ◌↔◌, ◌==◌, ◌&&◌, not, Bool, true, false, eqb, List, [], ◌∷◌, ◌++◌, length, take, drop, slice_get, Option, Some, None, Ok, Err}
use Rattle.std.specs.List.{IsDistinct}
use Rattle.std.specs.Option.{is_some}
use Rattle.quic_wire_core.specs.declared.stream_id.Side.{Side}
use Rattle.quic_wire_core.specs.declared.stream_id.Side.TheVariants.{Client, Server}
use Rattle.quic_wire_core.specs.declared.stream_id.Dir.{Dir}
use Rattle.quic_wire_core.specs.StreamId.{stream_id, other_side}
use Rattle.quic_wire.specs.Value.{FrameValue, AckValue, ack}
use Rattle.quic_assembler.specs.declared.assembler.Chunk.{Chunk}
use Rattle.quic_machine.specs.declared.answers.State.TheVariants as states
use Rattle.quic_streams_parts.specs.declared.answers.ReadError.TheVariants as read_errors
use Rattle.quic_machine.specs.declared.answers.Event.TheVariants as events
use Rattle.quic_streams_parts.specs.declared.answers.StreamEvent.TheVariants.{Finished}
use Rattle.quic_machine.specs.declared.run.ReadCall.{ReadCall}
use Rattle.quic_machine.specs.declared.run.Injection.{Injection}
use Rattle.quic_machine.specs.declared.run.RunEvent.{RunEvent}
use Rattle.quic_machine.specs.declared.run.Call.{Call}
use Rattle.quic_machine.specs.declared.run.Call.TheVariants as calls
use Rattle.quic_machine.specs.declared.run.Answer.{Answer}
use Rattle.quic_machine.specs.declared.run.Answer.TheVariants as answers
use Rattle.quic_packet.specs.Datagram.{Opening}
use Rattle.quic_machine.specs.Policy.{Policy}
use Rattle.quic_machine.specs.Start.{AreStarted, AreKeys}
use Rattle.quic_machine.specs.Ids.{known}
use Rattle.quic_machine.specs.Opens.{opens}
use Rattle.quic_machine.specs.Tracking.{asks_any}
use Rattle.quic_machine.specs.End.{End}
use Rattle.quic_machine.specs.Poll.{IsDatagram}
use Rattle.quic_machine.specs.Machine.{World, policy_at, end_at, Follows}
use Rattle.quic_headline.specs.Runs.{Run, Told, Next, Packet, In, until, state_at, AreServed, written, ended, nexts, chunks_of, reads, bytes_of, offsets_of, ids_of, accepts, only_in_order, reset, WasNamed, HasArrived, EndHasArrived, IsTaken, IsNamed, names, finishes_told, given_until, LeadsTo, destination, opens_by_key, expected_behind}
use Rattle.quic_headline.specs.Observer.{Sent, HoldsOffset, HoldsEnd, frames_opened, took, sents_until, references_until, acked_until}

-- ---- the premises

-- the stream that a call of an application names
abbrev pub used : Call → Option ℕ
used (calls.Write id bytes) = Some id
used (calls.WriteChunks id buffers) = Some id
used (calls.Finish id) = Some id
used (calls.Reset id code) = Some id
used (calls.SetPriority id priority) = Some id
used (calls.Read read) = Some read.id
used (calls.Stop id code) = Some id
used (calls.ReceivedReset id) = Some id
used call = None

-- a call at an end, and what it was answered
pub record IsAt (r : Run) (i : ℕ) (side : Side) (call : Call) (a : Answer) : Type 0 where
  pub event : slice_get r.events i ≡ Some (record { side = side; call = call })
  pub answer : slice_get r.answers i ≡ Some a

-- applications use only ids that were opened or accepted at their end before, in each call that was
-- answered
abbrev pub UsesOwnIds : Run → Type 0
UsesOwnIds r = (side : Side) (i id : ℕ) (call : Call) (a : Answer) → IsAt r i side call a → used call ≡ Some id → In id (ids_of (until r side i))

-- what the type of a code says: a number below 2^62 (RFC 9000, section 16)
abbrev pub CodeIsSmall : Call → Type 0
CodeIsSmall (calls.Reset id code) = code < 2 ^ 62
CodeIsSmall (calls.Stop id code) = code < 2 ^ 62
CodeIsSmall (calls.Close close) = close.error_code < 2 ^ 62
CodeIsSmall call = Unit {0}

-- so it is of the codes of all calls
abbrev pub AreCodes : List RunEvent → Type 0
AreCodes events = (event : RunEvent) → In event events → CodeIsSmall event.call

-- the premises of the headline
pub record IsHonest (r : Run) : Type 0 where
  pub start : AreStarted r.start
  pub keys : AreKeys r.keys
  pub ids : UsesOwnIds r

-- ---- ordered reads

-- xs are the first of ys
abbrev pub IsPrefixOf : List ℕ → List ℕ → Type 0
IsPrefixOf xs ys = (rest : List ℕ) × (xs ++ rest ≡ ys)

-- Each clause speaks of the end at `side`, and of a place before which no delivery, no poll and no
-- timeout met want of memory.

-- where a stream was read in order alone, the bytes read are a prefix of the bytes that the other
-- end wrote
abbrev pub OrderedPrefix : Run → Type 0
OrderedPrefix r = (side : Side) (id i : ℕ) → AreServed r i → only_in_order id (until r side i) ≡ true → IsPrefixOf (bytes_of (reads id (until r side i))) (written id (until r (other_side side) i))

-- each chunk is a slice of what was written, at its offset
abbrev pub Slices : Run → Type 0
Slices r = (side : Side) (id i : ℕ) (chunk : Chunk) → AreServed r i → In chunk (reads id (until r side i)) → take (length chunk.bytes) (drop chunk.offset (written id (until r (other_side side) i))) ≡ chunk.bytes

-- no offset is read twice, whatever the order of reads
abbrev pub Once : Run → Type 0
Once r = (side : Side) (id i : ℕ) → AreServed r i → IsDistinct eqb (offsets_of (reads id (until r side i)))

-- each of so many offsets is that of a byte of these chunks
abbrev pub HasOffsets : List Chunk → ℕ → Type 0
HasOffsets chunks count = (offset : ℕ) → offset < count → In offset (offsets_of chunks)

-- the end is told only where the other end finished the stream, and every byte was read before
abbrev pub EndAfterAll : Run → Type 0
EndAfterAll r = (side : Side) (id i : ℕ) (front behind : List Next) → AreServed r i → nexts id (until r side i) ≡ front ++ Ok None ∷ behind
    → (ended id (until r (other_side side) i) ≡ true) × HasOffsets (chunks_of front) (length (written id (until r (other_side side) i)))

-- the chunks that were read of a stream up to a `next` of a read: before the read, and in it
abbrev pub read_before : List Told → ℕ → List Next → List Chunk
read_before told id front = reads id told ++ chunks_of front

-- no offset arrived that a read may give behind these chunks: in order the one behind their bytes,
-- in no order any that isn't theirs
abbrev pub NoneToGive : Bool → List Packet → ℕ → List Chunk → Type 0
NoneToGive true packets id chunks = HasArrived packets id (length (bytes_of chunks)) → ⊥
NoneToGive false packets id chunks = (offset : ℕ) → HasArrived packets id offset → In offset (offsets_of chunks)

-- a read is blocked only where no byte has arrived that it may give, nor, with all read, the end
abbrev pub BlockedOnlyWithoutBytes : Run → Type 0
BlockedOnlyWithoutBytes r = (side : Side) (i : ℕ) (read : ReadCall) (front behind : List Next) → AreServed r i → IsAt r i side (calls.Read read) (answers.Read (Ok (front ++ Err read_errors.Blocked ∷ behind)))
    → NoneToGive read.ordered (took r side i) read.id (read_before (until r side i) read.id front)
    × ((size : ℕ) → EndHasArrived (took r side i) read.id size → HasOffsets (read_before (until r side i) read.id front) size → ⊥)

-- nothing is accepted only where each stream of that kind that a frame opened, and each below it,
-- was accepted
abbrev pub AcceptsAll : Run → Type 0
AcceptsAll r = (side : Side) (i : ℕ) (dir : Dir) (index below : ℕ) → AreServed r i → IsAt r i side (calls.Accept dir) (answers.Accept None)
    → WasNamed (took r side i) (stream_id (other_side side) dir index) → below ≤ index → In (stream_id (other_side side) dir below) (accepts (until r side i))

-- ---- streams that are finished

-- all that an end wrote on a stream, and its end, arrived in these packets
pub record AllArrived (packets : List Packet) (id : ℕ) (told : List Told) : Type 0 where
  pub ended : ended id told ≡ true
  pub bytes : (offset : ℕ) → offset < length (written id told) → HasArrived packets id offset
  pub end : EndHasArrived packets id (length (written id told))

-- a stream is told to be finished only where it was ended, and all that was written and its end are
-- in what the other end took
abbrev pub FinishedMeansArrived : Run → Type 0
FinishedMeansArrived r = (side : Side) (id i : ℕ) → AreServed r i → IsAt r i side calls.Event (answers.Event (Some (events.Stream (Finished id)))) → AllArrived (took r (other_side side) i) id (until r side i)

-- a stream was ended, and all that was written on it, and its end, stand in these datagrams
pub record AllHeld (sents : List Sent) (id : ℕ) (told : List Told) : Type 0 where
  pub ended : ended id told ≡ true
  pub bytes : (offset : ℕ) → offset < length (written id told) → HoldsOffset sents id offset
  pub end : HoldsEnd sents id

-- so it is of the datagrams of an end that were acknowledged in flight, and it didn't reset the
-- stream
abbrev pub IsAcknowledged : Run → Side → ℕ → ℕ → Type 0
IsAcknowledged r side id i = AllHeld (acked_until r side i) id (until r side i) × (reset id (until r side i) ≡ None)

-- how often an end told that a stream is finished
abbrev pub times_told : Run → Side → ℕ → ℕ → ℕ
times_told r side id i = finishes_told id (until r side i)

-- a stream was told to be finished once if it is wholly acknowledged, and never otherwise
abbrev pub ToldOnce : Run → Side → ℕ → ℕ → Type 0
ToldOnce r side id i = (IsAcknowledged r side id i → times_told r side id i ≡ 1) × ((IsAcknowledged r side id i → ⊥) → times_told r side id i ≡ 0)

-- no stream is told to be finished twice, and where an open end has nothing left to tell, each was
-- that is wholly acknowledged, its end too, and no other
abbrev pub FinishedIsTold : Run → Type 0
FinishedIsTold r = (side : Side) (id i : ℕ) → AreServed r i → (times_told r side id i ≤ 1) × (state_at r side i ≡ states.Open → IsAt r i side calls.Event (answers.Event None) → ToldOnce r side id i)

-- ---- acknowledgements

-- an ACK frame that came names only packets that its end had taken whole
abbrev pub AcknowledgedWereTaken : Run → Type 0
AcknowledgedWereTaken r = (side : Side) (i number : ℕ) → AreServed r i → IsNamed (took r side i) number → IsTaken (took r (other_side side) i) number

-- A number is named in an ACK frame of these (RFC 9000, section 19.3.1).
pub record IsNamedIn (frames : List FrameValue) (number : ℕ) : Type 0 where
  pub frame : AckValue
  pub carried : In (ack frame) frames
  pub named : names frame number ≡ true

-- the frames of a datagram that an end gave, read with the keys of the end that takes it, where
-- this number is expected, whichever id it was sent to
abbrev pub frames_given : Run → Side → ℕ → List ℕ → List FrameValue
frames_given r side expected d = frames_opened (opens_by_key (policy_at (other_side side) r.keys) expected d)

-- each ACK frame in a datagram that an end gave before a place names only packets that the end had
-- taken whole before it, whatever number is expected where the datagram is read (RFC 9000, section
-- 13.1); so it is right behind the poll that gave it, which takes nothing
abbrev pub NamesWereTaken : Run → Type 0
NamesWereTaken r = (side : Side) (i expected number : ℕ) (datagram : List ℕ) → AreServed r i → In datagram (given_until r side i) → IsNamedIn (frames_given r side expected datagram) number → IsTaken (took r side i) number

-- ---- injections

-- whether an end takes nothing from an address: a client, whose peer stays where it is (RFC 9000,
-- section 9), and the address isn't that for which the client was made
abbrev pub takes_nothing_from : Run → Side → ℕ → Bool
takes_nothing_from r Client remote = not (remote == r.start.client.path.remote)
takes_nothing_from r Server remote = false

-- whether bytes from an address open at an end to which the first so many events lead: it takes
-- what comes from there, and they open with its keys, under an id
-- that it has there, where by the run's lists one above the greatest number that it took is
-- expected (RFC 9000, sections 5.2 and 12.2, and A.3), in key phase 0. An end may have an id that
-- it drew and told nobody, which no list shows.
abbrev pub would_open_at : Run → World → Side → ℕ → ℕ → List ℕ → Bool
would_open_at r w side i remote d = not (takes_nothing_from r side remote) && is_some (opens (policy_at side r.keys) (known (end_at side w).ids) (expected_behind (took r side i)) d)

-- an injection is answered `Opens` exactly where its bytes open so, whatever the state of its end
abbrev pub OpensExactly : Run → Type 0
OpensExactly r = (side : Side) (i : ℕ) (w : World) (injection : Injection) (a : Answer) → AreServed r i → LeadsTo r i w → IsAt r i side (calls.Inject injection) a → (a ≡ answers.Opens) ↔ (would_open_at r w side i injection.remote injection.bytes ≡ true)

-- ---- what opens

-- what a datagram that an end gave opens to at the other end by the run's lists: with its keys,
-- whichever id it was sent to, where one above the greatest number that it took is expected (RFC
-- 9000, section 17.1 and A.3)
abbrev pub opened_there : Run → Side → ℕ → List ℕ → Option Opening
opened_there r side i d = opens_by_key (policy_at (other_side side) r.keys) (expected_behind (took r (other_side side) i)) d

-- none of these packets has a number above this one
abbrev pub NoneAbove : List Packet → ℕ → Type 0
NoneAbove packets number = (packet : Packet) → In packet packets → packet.number ≤ number

-- A datagram opens as it was sent: under its number, to its frames.
pub record OpensAs (s : Sent) (o : Option Opening) : Type 0 where
  pub opening : Opening
  pub is : o ≡ Some opening
  pub number : opening.number ≡ s.number
  pub frames : frames_opened o ≡ s.frames

-- each datagram that an end gave before a place, by where it stands among them, opens as it was
-- sent where the other end took none with a number above its own: the bytes that go of a number
-- tell it to a peer that took what was acknowledged, and nothing later (RFC 9000, sections 12.3 and
-- 17.1, and A.2 and A.3)
abbrev pub NewestOpens : Run → Type 0
NewestOpens r = (side : Side) (i place : ℕ) (datagram : List ℕ) (s : Sent) → AreServed r i → slice_get (given_until r side i) place ≡ Some datagram → slice_get (sents_until r side i) place ≡ Some s
    → NoneAbove (took r (other_side side) i) s.number → OpensAs s (opened_there r side i datagram)

-- ---- timers

-- at an open end the loss timer is set exactly while a datagram that asks is waited for (RFC 9002,
-- section 6.2.1)
abbrev pub LossTimerFollows : End → Type 0
LossTimerFollows e = e.closing.state ≡ states.Open → is_some e.timers.loss_detection ≡ asks_any e.tracking.packets

-- so it is at both ends
abbrev pub LossTimersFollow : World → Type 0
LossTimersFollow w = LossTimerFollows w.client × LossTimerFollows w.server

-- at an open end the timer of acknowledgements is set only where a packet that asks came since the
-- last acknowledgement went (RFC 9000, section 13.2.1)
abbrev pub AckTimerFollows : End → Type 0
AckTimerFollows e = e.closing.state ≡ states.Open → is_some e.timers.max_ack_delay ≡ true → 0 < e.acknowledging.asking

-- so it is at both ends
abbrev pub AckTimersFollow : World → Type 0
AckTimersFollow w = AckTimerFollows w.client × AckTimerFollows w.server

-- ---- numbers

-- A datagram has this number: it is the datagram of it, of the id that stands in it and of stated
-- frames (RFC 9000, sections 12.4 and 17.3.1). No number is 2^62 or more, nor does one lie 2^31 or
-- more above what it is cut against (sections 12.3 and 17.1).
pub record IsNumbered (p : Policy) (reference number : ℕ) (datagram : List ℕ) : Type 0 where
  pub small : number < 2 ^ 62
  pub near : number - reference < 2 ^ 31
  pub frames : List FrameValue
  pub is : IsDatagram p reference number (destination datagram) frames datagram

-- each datagram has a number, cut against its reference, at or above `low` and above those before
-- it, and no two numbers that follow one another are left out
abbrev pub Rise : Policy → ℕ → List ℕ → List (List ℕ) → Type 0
Rise p low references [] = Unit {0}
Rise p low [] (d ∷ ds) = ⊥
Rise p low (reference ∷ references) (d ∷ ds) = (number : ℕ) × (low ≤ number) × (number ≤ low + 1) × IsNumbered p reference number d × Rise p (number + 1) references ds

-- at each end and each place, each datagram given is that of a number, the id that stands in it and
-- stated frames, and the numbers rise, by one or by two: at most one is left out between two that
-- are given
abbrev pub NumbersRise : Run → Type 0
NumbersRise r = (side : Side) (i : ℕ) → AreServed r i → Rise (policy_at side r.keys) 0 (references_until r side i) (given_until r side i)

-- ---- a run of the machine

-- the answers and views may come of the events, whose codes are codes, and these are the datagrams
-- that the ends gave
pub record IsRun (r : Run) (end : World) : Type 0 where
  pub codes : AreCodes r.events
  pub follows : Follows r.keys r.start r.events r.answers r.views end
  pub from_client : r.from_client ≡ end.from_client
  pub from_server : r.from_server ≡ end.from_server
