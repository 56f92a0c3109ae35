-- The small changes that calls and frames make of all streams of one end: a fact that each of them
-- keeps is kept by every word.
use Rattle.std.specs.Prelude.{◌≡◌, ℕ, ◌+◌, ◌-◌, ◌<◌, ◌≤◌, ◌⊎◌, Bool, true, ◌==◌, if◌then◌else◌, List, [], ◌∷◌, Option, Some, None}
use Rattle.std.specs.Option.{is_some}
use Rattle.quic_wire_core.specs.declared.stream_id.Dir.{Dir}
use Rattle.quic_assembler.specs.Arrived.{bytes_read_of}
use Rattle.quic_streams_parts.specs.Table.{at}
use Rattle.quic_streams_parts.specs.Dirs.{of, with_of, more}
use Rattle.quic_streams_parts.specs.SendHalf.{SendHalf, written_on, room_on, has_pending, is_acked, requeued_at, turned_at}
use Rattle.quic_streams_parts.specs.RecvHalf.{RecvHalf, raised_on, credit}
use Rattle.quic_streams_parts.specs.declared.answers.StreamEvent.{StreamEvent}
use Rattle.quic_streams_parts.specs.declared.answers.StreamEvent.TheVariants as stream_events
use Rattle.quic_streams_parts.specs.Events.{Events, with_event}
use Rattle.quic_streams_state.specs.declared.state.StreamsState.{StreamsState}
use Rattle.quic_streams_state.specs.State.{Receiving, seen, sending_half, receiving_half, with_send, with_recv, send_done, recv_done, room}
use Rattle.quic_streams_state.specs.Limits.{most_streams, raised_data}
use Rattle.quic_streams_state.specs.Opening.{opens, opened_if, beyond, announced_count}
use Rattle.quic_streams_state.specs.Taking.{joined}
use Rattle.quic_streams_state.specs.Control.{blocked_told}
use Rattle.quic_streams_state.specs.Writing.{put_queued}
use Rattle.quic_streams_state.specs.Telling.{unblocked_at}

-- a sending half that stands where it stood in the queue, is blocked as it was, and whose limit the
-- peer was told to be used up no more than before
pub record StandsAlike (old new : SendHalf) : Type 0 where
  pub place : new.place ≡ old.place
  pub blocked : new.blocked ≡ old.blocked
  pub said : new.said ≡ old.said

-- a sending half on which nothing was written, and whose limit didn't fall
pub record SendsOn (old new : SendHalf) : Type 0 where
  pub stands : StandsAlike old new
  pub as_many : written_on new ≡ written_on old
  pub limit : old.limit ≤ new.limit

-- a sending half on which so many bytes were written, within its limit and what the connection
-- leaves
pub record WritesOn (room : ℕ) (n : ℕ) (old new : SendHalf) : Type 0 where
  pub stands : StandsAlike old new
  pub more : written_on new ≡ written_on old + n
  pub limit : new.limit ≡ old.limit
  pub fits : n ≤ room_on old
  pub within : n ≤ room

-- a receiving half on which more has come, within what the peer was told and what all streams may
-- bring
pub record SeesMore (r : Receiving) (old new : RecvHalf) : Type 0 where
  pub more : old.seen ≤ new.seen
  pub announced : new.seen ≤ old.announced
  pub all : seen r - old.seen + new.seen ≤ raised_data r

-- what counts as consumed: all that was seen, as much as before, or more, but no more than was seen
pub data CreditIs (old new : RecvHalf) : Type 0 where
  all_of_it : credit new ≡ new.seen → CreditIs old new
  as_before : credit new ≡ credit old → CreditIs old new
  some_more : credit old ≤ credit new → credit new ≤ new.seen → CreditIs old new

-- where the final size is known, it is the greatest offset that was seen
abbrev pub EndsThere : RecvHalf → Type 0
EndsThere h = (size : ℕ) → h.final ≡ Some size → h.seen ≡ size

-- a receiving half on which something came, was read or was stopped
pub record ReceivesOn (r : Receiving) (old new : RecvHalf) : Type 0 where
  pub announced : new.announced ≡ old.announced
  pub sees : (new.seen ≡ old.seen) ⊎ SeesMore r old new
  pub read : bytes_read_of old.arrived ≤ bytes_read_of new.arrived
  pub credit : CreditIs old new
  pub ended : EndsThere old → EndsThere new

-- the streams, with what one of those that are blocked leaves
abbrev pub unblocked : StreamsState → ℕ → List ℕ → StreamsState
unblocked s id ids = record s { sending = record s.sending { blocked = ids; halves = record s.sending.halves { live = unblocked_at (at s.sending.halves.live id) s.sending.halves.live id } } }

-- how often it waits to be told that a stream is finished
abbrev pub finishes_in : ℕ → List StreamEvent → ℕ
finishes_in id [] = 0
finishes_in id (stream_events.Finished s ∷ events) = (if s == id then 1 else 0) + finishes_in id events
finishes_in id (event ∷ events) = finishes_in id events

-- of no stream it waits more often than before
abbrev pub NoneMoreFinished : Events → Events → Type 0
NoneMoreFinished old new = (id : ℕ) → finishes_in id new.queue ≤ finishes_in id old.queue

-- nothing is left to do on a sending half: it was reset, or all of it is acknowledged
abbrev pub HasEnded : SendHalf → Type 0
HasEnded h = (is_some h.reset ≡ true) ⊎ (is_acked h ≡ true)

-- ---- the small changes

-- one small change of the streams, of which every call is a row
pub data Change : Type 0 where
  -- what the application is told: that a stream is finished, and all else
  finishes : ℕ → Change
  events : Events → Change
  -- streams that this end opens and accepts, and how many it may open
  opens_own : Dir → Change
  accepts : Dir → Change
  allows : Dir → ℕ → Change
  -- those that the peer opens
  opens_theirs : ℕ → Change
  -- how far all streams may come
  raises : ℕ → Change
  -- a sending half, and its place in the queue
  changes_sending : ℕ → SendHalf → SendHalf → Change
  queues : ℕ → SendHalf → SendHalf → Bool → Change
  turns : ℕ → SendHalf → SendHalf → Change
  writes : ℕ → ℕ → SendHalf → SendHalf → Change
  -- it is among those that are blocked, or isn't any more
  joins : ℕ → SendHalf → Change
  passes : ℕ → List ℕ → Change
  -- it is done
  ends_sending : ℕ → SendHalf → Change
  -- a receiving half, among these, and it is done
  changes_receiving : Receiving → ℕ → RecvHalf → RecvHalf → Change
  ends_receiving : ℕ → RecvHalf → Change
  -- the peer is told how far it may come, on all streams and on one, and how many it may open
  tells : Change
  tells_on : ℕ → RecvHalf → Change
  tells_count : Dir → Change
  -- the peer is told that a limit on all streams is used up; and which limit of a sending half it
  -- was told so, which may be none
  notes : ℕ → Change
  notes_on : ℕ → SendHalf → Option ℕ → Change

-- the streams that a change leaves
abbrev pub after : Change → StreamsState → StreamsState
after (finishes id) s = record s { events = with_event (stream_events.Finished id) s.events }
after (events e) s = record s { events = e }
after (opens_own dir) s = record s { opening = record s.opening { own = more dir s.opening.own; sending = s.opening.sending + 1 } }
after (accepts dir) s = record s { opening = record s.opening { accepted = more dir s.opening.accepted } }
after (allows dir count) s = record s { opening = record s.opening { own_limit = with_of dir count s.opening.own_limit } }
after (opens_theirs id) s = opened_if true id s
after (raises limit) s = record s { sending = record s.sending { limit = limit } }
after (changes_sending id old new) s = with_send s id new
after (queues id old new b) s = put_queued s id (requeued_at old.place b s.sending.queue id new)
after (turns id old new) s = put_queued s id (turned_at old.place s.sending.queue id new)
after (writes id n old new) s = let t = put_queued s id (requeued_at old.place true s.sending.queue id new) in record t { sending = record t.sending { accepted = s.sending.accepted + n } }
after (joins id h) s = joined s id h
after (passes id ids) s = unblocked s id ids
after (ends_sending id h) s = send_done s id
after (changes_receiving r id old new) s = with_recv s id new
after (ends_receiving id h) s = recv_done s id
after tells s = record s { receiving = record s.receiving { announced = raised_data s.receiving } }
after (tells_on id h) s = with_recv s id (record h { announced = raised_on s.receiving.stream_window h })
after (tells_count dir) s = record s { opening = announced_count dir s.opening }
after (notes limit) s = record s { sending = blocked_told s.sending limit }
after (notes_on id h said) s = with_send s id (record h { said = said })

-- what is asked of changes: of a receiving half, of a sending half, and of one on which bytes are
-- written; of streams that are accepted; of streams that it is told are finished; of sending halves
-- that are done; and of the limit on all streams
pub record Asks : Type 1 where
  pub recv : Receiving → ℕ → RecvHalf → RecvHalf → Type 0
  pub send : StreamsState → ℕ → SendHalf → SendHalf → Type 0
  pub write : StreamsState → ℕ → ℕ → SendHalf → SendHalf → Type 0
  pub accept : StreamsState → Dir → Type 0
  pub finish : ℕ → Type 0
  pub end : ℕ → SendHalf → Type 0
  pub limit : StreamsState → ℕ → Type 0

-- where a change may be made of streams
abbrev pub May : Asks → Change → StreamsState → Type 0
May q (finishes id) s = q.finish id
May q (events e) s = NoneMoreFinished s.events e
May q (opens_own dir) s = of dir s.opening.own < of dir s.opening.own_limit
May q (accepts dir) s = q.accept s dir
May q (allows dir count) s = (count ≤ most_streams) × (of dir s.opening.own_limit < count)
May q (opens_theirs id) s = (opens s id ≡ true) × (beyond s id ≡ None)
May q (raises limit) s = q.limit s limit
May q (changes_sending id old new) s = (sending_half s id ≡ Some old) × q.send s id old new × (has_pending new ≡ has_pending old)
May q (queues id old new b) s = (sending_half s id ≡ Some old) × q.send s id old new × (has_pending new ≡ b)
May q (turns id old new) s = (sending_half s id ≡ Some old) × q.send s id old new × (has_pending new ≡ true)
May q (writes id n old new) s = (sending_half s id ≡ Some old) × q.write s id n old new × (has_pending new ≡ true)
May q (joins id h) s = sending_half s id ≡ Some h
May q (passes id ids) s = s.sending.blocked ≡ id ∷ ids
May q (ends_sending id h) s = (at s.sending.halves.live id ≡ Some h) × q.end id h
May q (changes_receiving r id old new) s = (receiving_half s id ≡ Some old) × q.recv r id old new × (s.receiving ≡ r)
May q (ends_receiving id h) s = at s.receiving.halves.live id ≡ Some h
May q tells s = Unit {0}
May q (tells_on id h) s = at s.receiving.halves.live id ≡ Some h
May q (tells_count dir) s = Unit {0}
May q (notes limit) s = Unit {0}
May q (notes_on id h said) s = sending_half s id ≡ Some h

-- a fact that each small change keeps, where receiving halves change only as R says of them,
-- sending halves as S says, and those on which bytes are written as W says; where streams of the
-- peer's are accepted as A says; where it is told of streams that they are finished as F says;
-- where sending halves are done as E says; and where the limit on all streams is raised as L says
abbrev pub KeepsWhere : (Receiving → ℕ → RecvHalf → RecvHalf → Type 0) → (StreamsState → ℕ → SendHalf → SendHalf → Type 0) → (StreamsState → ℕ → ℕ → SendHalf → SendHalf → Type 0) → (StreamsState → Dir → Type 0) → (ℕ → Type 0) → (ℕ → SendHalf → Type 0)
    → (StreamsState → ℕ → Type 0) → (StreamsState → Type 0) → Type 0
KeepsWhere R S W A F E L P = (c : Change) (s : StreamsState) → May (record { recv = R; send = S; write = W; accept = A; finish = F; end = E; limit = L }) c s → P s → P (after c s)

-- such a fact, whichever of the sending halves are done that were reset or are wholly acknowledged,
-- and wherever the limit on all streams doesn't fall
abbrev pub KeepsAll : (Receiving → ℕ → RecvHalf → RecvHalf → Type 0) → (StreamsState → ℕ → SendHalf → SendHalf → Type 0) → (StreamsState → ℕ → ℕ → SendHalf → SendHalf → Type 0) → (StreamsState → Dir → Type 0) → (ℕ → Type 0) → (StreamsState → Type 0) → Type 0
KeepsAll R S W A F P = KeepsWhere R S W A F (λ id h. HasEnded h) (λ s limit. s.sending.limit ≤ limit) P

-- one of the peer's streams waits to be accepted
abbrev pub MayAccept : StreamsState → Dir → Type 0
MayAccept s dir = of dir s.opening.accepted < of dir s.opening.remote

-- such a fact, whatever streams are accepted
abbrev pub KeepsBy : (Receiving → ℕ → RecvHalf → RecvHalf → Type 0) → (StreamsState → ℕ → SendHalf → SendHalf → Type 0) → (StreamsState → ℕ → ℕ → SendHalf → SendHalf → Type 0) → (StreamsState → Type 0) → Type 0
KeepsBy R S W P = KeepsAll R S W (λ s dir. MayAccept s dir) (λ id. Unit {0}) P

-- a fact that each small change keeps, as streams make them
abbrev pub Keeps : (StreamsState → Type 0) → Type 0
Keeps P = KeepsBy (λ r id old new. ReceivesOn r old new) (λ s id old new. SendsOn old new) (λ s id n old new. WritesOn (room s.sending) n old new) P
