-- The messages that wait to go at an end, by a run's lists alone: those that it sent, less those
-- that went in a datagram, those that were dropped for later ones, and those that are longer than
-- fits its datagrams since (RFC 9221, sections 5 and 5.4).
use Rattle.std.specs.Prelude.{ℕ, suc, ◌≡◌, ◌⊎◌, Bool, true, false, List, [], ◌∷◌, ◌++◌, filter, length, drop, take, Option, Some, None, Ok, if◌then◌else◌}
use Rattle.quic_wire_core.specs.declared.stream_id.Side.{Side}
use Rattle.quic_wire.specs.Value.{FrameValue, datagram}
use Rattle.quic_messages.specs.Messages.{with_message, is_within}
use Rattle.quic_messages.specs.Sending.{max_size}
use Rattle.quic_machine.specs.declared.answers.Transmit.{Transmit}
use Rattle.quic_machine.specs.declared.run.RunEvent.{RunEvent}
use Rattle.quic_machine.specs.declared.run.Call.{Call}
use Rattle.quic_machine.specs.declared.run.Call.TheVariants as calls
use Rattle.quic_machine.specs.declared.run.Answer.{Answer}
use Rattle.quic_machine.specs.declared.run.Answer.TheVariants as answers
use Rattle.quic_machine.specs.declared.run.View.{View}
use Rattle.quic_machine.specs.End.{End}
use Rattle.quic_machine.specs.Machine.{end_at}
use Rattle.quic_headline.specs.Runs.{Run, In, same_side, AreServed}
use Rattle.quic_headline.specs.Observer.{Sent, sents_until}
use Rattle.quic_headline.specs.Headline.{IsAt}
use Rattle.quic_headline.specs.Polls.{mtu_in, GaveNothing, IsHeldBack, IsLimited}

-- ---- what waits

-- the messages of DATAGRAM frames among frames
abbrev pub messages_in : List FrameValue → List (List ℕ)
messages_in [] = []
messages_in (datagram m ∷ fs) = m ∷ messages_in fs
messages_in (f ∷ fs) = messages_in fs

-- the messages that wait, the oldest first, and the datagrams that the end gives from here on
pub record Outbox : Type 0 where
  pub waiting : List (List ℕ)
  pub left : List Sent

-- the next datagram goes: of those that wait, as many of the oldest go as it has messages
abbrev pub and_gone : List Sent → List (List ℕ) → Outbox
and_gone [] waiting = record { waiting = waiting; left = [] }
and_gone (s ∷ ss) waiting = record { waiting = drop (length (messages_in s.frames)) waiting; left = ss }

-- One more message waits behind the others. Where its call lets older ones be dropped, the oldest
-- are, until it fits beside the others in so many bytes; where it doesn't, none is.
abbrev pub and_queued : Bool → ℕ → List ℕ → List (List ℕ) → List (List ℕ)
and_queued true room message waiting = with_message length room message waiting
and_queued false room message waiting = waiting ++ message ∷ []

-- what a call leaves waiting: one that sends a message, or a poll that gives a datagram
abbrev pub outbox_by : ℕ → Call → Answer → Outbox → Outbox
outbox_by room (calls.Send message makes_room) (answers.Send (Ok done)) o = record o { waiting = and_queued makes_room room message o.waiting }
outbox_by room (calls.Poll now) (answers.Poll (Ok (Some transmit))) o = and_gone o.left o.waiting
outbox_by room call a o = o

-- those of messages that have at most so many bytes; all, where no message may be sent
abbrev pub short_ones : Option ℕ → List (List ℕ) → List (List ℕ)
short_ones None waiting = waiting
short_ones (Some most) waiting = filter (is_within most) waiting

-- what a call leaves waiting behind which a message may have so many bytes: longer ones are dropped
abbrev pub outbox_behind : ℕ → Option ℕ → Call → Answer → Outbox → Outbox
outbox_behind room most call a o = let left = outbox_by room call a o in record left { waiting = short_ones most left.waiting }

-- so it is of an event, where the view behind it says how long a message may be; one at the other
-- end leaves all
abbrev pub outbox_next : ℕ → (View → Option ℕ) → Side → RunEvent → Answer → View → Outbox → Outbox
outbox_next room most side event a v o = if same_side event.side side then outbox_behind room (most v) event.call a o else o

-- and of all events that were answered, in their order
abbrev pub outbox_all : ℕ → (View → Option ℕ) → Side → List RunEvent → List Answer → List View → Outbox → Outbox
outbox_all room most side [] answers views o = o
outbox_all room most side (event ∷ events) [] views o = o
outbox_all room most side (event ∷ events) (a ∷ answers) [] o = o
outbox_all room most side (event ∷ events) (a ∷ answers) (v ∷ views) o = outbox_all room most side events answers views (outbox_next room most side event a v o)

-- how many bytes of messages an end keeps that wait
abbrev pub queue_room : Run → Side → ℕ
queue_room r side = (end_at side r.start).transport.datagram_send_buffer_size

-- how long a message of an end may be where its datagrams have at most so many bytes, if its peer
-- takes any: by these, the longest frame that the peer takes, and the peer's id
abbrev pub longest_by : Run → Side → ℕ → Option ℕ
longest_by r side size = let e : End = end_at side r.start in max_size e.peer_params.max_datagram_frame_size size (length e.ids.peer.id)

-- so it is where they have at most the size that a view shows
abbrev pub longest_in : Run → Side → View → Option ℕ
longest_in r side v = longest_by r side (mtu_in v side)

-- the messages that wait at an end behind the first so many answers, the oldest first
abbrev pub waiting_messages : Run → Side → ℕ → List (List ℕ)
waiting_messages r side i = (outbox_all (queue_room r side) (longest_in r side) side r.events (take i r.answers) r.views (record { waiting = []; left = sents_until r side i })).waiting

-- ---- the clauses

-- where a poll of an open end gives nothing though by the lists a message waits, window or pacer
-- hold it back, or nothing more may go to an address that isn't validated
abbrev pub MessagesGo : Run → Type 0
MessagesGo r = (side : Side) (i now : ℕ) (message : List ℕ) (v : View) → AreServed r (suc i) → GaveNothing r side i now v → In message (waiting_messages r side (suc i)) → IsHeldBack r side (suc i) v ⊎ IsLimited r side (suc i) v

-- the messages of a datagram that a poll gives are the first of those that wait, in their order,
-- and all others wait behind it as before
abbrev pub MessagesGoInOrder : Run → Type 0
MessagesGoInOrder r = (side : Side) (i now : ℕ) (transmit : Transmit) (s : Sent) → AreServed r (suc i) → IsAt r i side (calls.Poll now) (answers.Poll (Ok (Some transmit))) → sents_until r side (suc i) ≡ sents_until r side i ++ s ∷ []
    → messages_in s.frames ++ waiting_messages r side (suc i) ≡ waiting_messages r side i
