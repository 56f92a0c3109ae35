-- The messages that wait to be received at an end, by a run's lists alone: those of the DATAGRAM
-- frames that came, less those that were received, and those that went for later ones (RFC 9221,
-- section 5).
use Rattle.std.specs.Prelude.{ℕ, ◌<◌, ◌≡◌, max, nat_le, if◌then◌else◌, List, [], ◌∷◌, ◌++◌, length, take, drop, sum_by, Option, Some, None}
use Rattle.quic_wire_core.specs.declared.stream_id.Side.{Side}
use Rattle.quic_wire_core.specs.StreamId.{other_side}
use Rattle.quic_messages.specs.Messages.{oldest}
use Rattle.quic_machine.specs.declared.run.Call.{Call}
use Rattle.quic_machine.specs.declared.run.Call.TheVariants as calls
use Rattle.quic_machine.specs.declared.run.Answer.TheVariants as answers
use Rattle.quic_machine.specs.Policy.{Policy}
use Rattle.quic_machine.specs.Machine.{policy_at, end_at}
use Rattle.quic_headline.specs.Runs.{Run, Told, Packet, Intake, nothing_came, and_told, folded, until, given_of, AreServed}
use Rattle.quic_headline.specs.Observer.{news}
use Rattle.quic_headline.specs.Headline.{IsAt}
use Rattle.quic_headline.specs.LoneMessages.{before_close}
use Rattle.quic_headline.specs.Queue.{messages_in}

-- ---- the receive buffer

-- how many bytes of it messages take: an empty one takes one
abbrev pub bytes_kept : List (List ℕ) → ℕ
bytes_kept ms = sum_by (λ m. max (length m) 1) ms

-- the latest of these, as many as have room together in so many bytes: the last in any case
abbrev pub latest_kept : ℕ → List (List ℕ) → List (List ℕ)
latest_kept room [] = []
latest_kept room (m ∷ []) = m ∷ []
latest_kept room (m ∷ ms) = if nat_le (bytes_kept (m ∷ ms)) room then m ∷ ms else latest_kept room ms

-- One more message comes, for which the oldest go. None has room where there is no buffer, nor one
-- that is longer than the buffer (RFC 9221, section 3).
abbrev pub and_message : Option ℕ → List ℕ → List (List ℕ) → List (List ℕ)
and_message None message waiting = waiting
and_message (Some room) message waiting = if nat_le (length message) room then latest_kept room (waiting ++ message ∷ []) else waiting

-- more come, one behind another
abbrev pub and_messages : Option ℕ → List (List ℕ) → List (List ℕ) → List (List ℕ)
and_messages room [] waiting = waiting
and_messages room (m ∷ ms) waiting = and_messages room ms (and_message room m waiting)

-- ---- what comes

-- the messages of packets that were taken, the latest of which stands first
abbrev pub messages_taken : List Packet → List (List ℕ)
messages_taken [] = []
messages_taken (p ∷ ps) = messages_taken ps ++ messages_in (before_close p.frames)

-- those of a packet that was refused between these two, among so many frames before the one at
-- fault: an end takes no packet behind it
abbrev pub messages_left : ℕ → Option Packet → Option Packet → List (List ℕ)
messages_left frames None (Some p) = messages_in (take frames p.frames)
messages_left frames before after = []

-- the messages that came between two intakes
abbrev pub messages_between : ℕ → Intake → Intake → List (List ℕ)
messages_between frames before after = messages_taken (news before after) ++ messages_left frames before.part after.part

-- ---- what waits

-- what came to an end, and the messages that wait to be received, the oldest first
pub record Inbox : Type 0 where
  pub intake : Intake
  pub waiting : List (List ℕ)

-- nothing came
abbrev pub no_inbox : Inbox
no_inbox = record { intake = nothing_came; waiting = [] }

-- a call takes out the oldest, or none
abbrev pub taken_out : Call → List (List ℕ) → List (List ℕ)
taken_out calls.Recv waiting = drop 1 waiting
taken_out call waiting = waiting

-- one call more, where this has come behind it
abbrev pub inbox_behind : ℕ → Option ℕ → Told → Inbox → Intake → Inbox
inbox_behind frames room t b after = record { intake = after; waiting = taken_out t.call (and_messages room (messages_between frames b.intake after) b.waiting) }

-- one call more, at an end with these keys; `given` are the datagrams that the other end gave
abbrev pub inbox_told : ℕ → Option ℕ → Policy → List (List ℕ) → Told → Inbox → Inbox
inbox_told frames room p given t b = inbox_behind frames room t b (and_told p given t b.intake)

-- how many bytes of messages an end keeps that weren't received, if it takes any
abbrev pub inbox_room : Run → Side → Option ℕ
inbox_room r side = (end_at side r.start).transport.datagram_receive_buffer_size

-- the messages that wait to be received at an end behind the first so many answers, the oldest
-- first, where so many frames were read of a packet that it refused, if it did
abbrev pub inbox : Run → Side → ℕ → ℕ → List (List ℕ)
inbox r side frames i = (folded (inbox_told frames (inbox_room r side) (policy_at side r.keys) (given_of r (other_side side))) (until r side i) no_inbox).waiting

-- ---- the clause

-- each call that receives gives the oldest of the messages that wait, or none where none waits,
-- whatever the state of its end; of a packet that the end refused, those wait besides that stand
-- before the frame at fault, which no list shows
abbrev pub ReceivesOldest : Run → Type 0
ReceivesOldest r = (side : Side) (i : ℕ) → AreServed r i
    → (frames : ℕ) × ((j : ℕ) (message : Option (List ℕ)) → j < i → IsAt r j side calls.Recv (answers.Recv message) → message ≡ oldest (inbox r side frames j))
