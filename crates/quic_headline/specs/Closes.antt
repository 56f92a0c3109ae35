-- What closes say, and when they go (RFC 9000, sections 10.2, 19.19 and 20.1).
use Rattle.std.specs.Prelude.{ℕ, suc, ◌+◌, ◌-◌, ◌^◌, ◌<◌, ◌≡◌, ◌≢◌, ◌==◌, ◌||◌, not, Bool, true, false, if◌then◌else◌, List, [], Option, Some, None, Ok, length}
use Rattle.quic_wire_core.specs.declared.stream_id.Side.{Side}
use Rattle.quic_wire_core.specs.StreamId.{other_side}
use Rattle.quic_wire.specs.Value.{FrameValue, connection_close, application_close}
use Rattle.quic_wire.specs.Close.{CloseValue, by_transport, by_application}
use Rattle.quic_machine.specs.declared.answers.State.{State}
use Rattle.quic_machine.specs.declared.answers.State.TheVariants as states
use Rattle.quic_machine.specs.declared.answers.LostReason.{LostReason}
use Rattle.quic_machine.specs.declared.answers.LostReason.TheVariants as reasons
use Rattle.quic_machine.specs.declared.answers.DropReason.TheVariants as drops
use Rattle.quic_machine.specs.declared.answers.Received.TheVariants as receives
use Rattle.quic_machine.specs.declared.run.CloseCall.{CloseCall}
use Rattle.quic_machine.specs.declared.run.Call.TheVariants as calls
use Rattle.quic_machine.specs.declared.run.Answer.{Answer}
use Rattle.quic_machine.specs.declared.run.Answer.TheVariants as answers
use Rattle.quic_machine.specs.Machine.{policy_at, gave}
use Rattle.quic_headline.specs.Runs.{Run, Told, In, AreServed, folded, until, given_until, state_at, acknowledged}
use Rattle.quic_headline.specs.Observer.{Sent, is_close, next_number, sents_until, took}
use Rattle.quic_headline.specs.Headline.{IsAt, IsPrefixOf}
use Rattle.quic_headline.specs.Polls.{GaveOne, seen_at}
use Rattle.quic_headline.specs.Causes.{Shows}
use Rattle.quic_headline.specs.Waited.{IsCloseAlone}

-- ---- what they say

-- The application closed an end that was open, with this code, and with a text that begins with
-- this one.
pub record SaidSo (told : List Told) (code : ℕ) (text : List ℕ) : Type 0 where
  pub call : Told
  pub among : In call told
  pub was_open : call.state ≡ states.Open
  pub close : CloseCall
  pub called : call.call ≡ calls.Close close
  pub same : close.error_code ≡ code
  pub begins : IsPrefixOf text close.reason

-- a close of QUIC has this code, and names neither a frame nor a text
abbrev pub IsCode : ℕ → FrameValue → Type 0
IsCode code (connection_close c) = (c.code ≡ code) × ((c.frame_type ≡ 0) × (c.reason ≡ []))
IsCode code f = ⊥

-- an application's close says what the application said
abbrev pub SaysSo : List Told → FrameValue → Type 0
SaysSo told (application_close c) = SaidSo told c.code c.reason
SaysSo told f = ⊥

-- a close says why its end isn't open, which did this: what the application said;
-- AEAD_LIMIT_REACHED where a key is used up (RFC 9001, section 6.6); INTERNAL_ERROR where numbers
-- are, or too many runs of a stream wait; or the error of a rule that was broken. An end that was
-- idle, or whose peer closed, gives none
abbrev pub SaysWhy : Option LostReason → List Told → FrameValue → Type 0
SaysWhy (Some reasons.Application) told f = SaysSo told f
SaysWhy (Some reasons.KeyLimit) told f = IsCode 15 f
SaysWhy (Some reasons.NumberLimit) told f = IsCode 1 f
SaysWhy (Some reasons.Pieces) told f = IsCode 1 f
SaysWhy (Some (reasons.Transport error)) told f = IsCode error.code f
SaysWhy reason told f = ⊥

-- so does each close in a datagram that an end gave before a place, by the reason that is seen of
-- it there
abbrev pub ClosesSayWhy : Run → Type 0
ClosesSayWhy r = (side : Side) (i : ℕ) (s : Sent) (f : FrameValue) → AreServed r i → In s (sents_until r side i) → In f s.frames → is_close f ≡ true → SaysWhy (seen_at r side i).reason (until r side i) f

-- a close is told as it was said: the code, the text, and of an error of QUIC the type of the frame
-- at fault, where one is named (section 19.19)
abbrev pub IsToldAs : FrameValue → CloseValue → Type 0
IsToldAs (connection_close c) (by_transport v) = (v.code ≡ c.code) × (v.reason ≡ c.reason) × (v.frame_type ≡ (if c.frame_type == 0 then None else Some c.frame_type))
IsToldAs (application_close c) (by_application v) = (v.code ≡ c.code) × (v.reason ≡ c.reason)
IsToldAs f v = ⊥

-- Before a place an end gave a datagram with this close.
pub record GaveClose (r : Run) (side : Side) (i : ℕ) (close : CloseValue) : Type 0 where
  pub sent : Sent
  pub among : In sent (sents_until r side i)
  pub frame : FrameValue
  pub carried : In frame sent.frames
  pub told_as : IsToldAs frame close

-- the close for which an end isn't open, as its views show it, is one that the other end gave
abbrev pub PeerClosesCome : Run → Type 0
PeerClosesCome r = (side : Side) (place : ℕ) (close : CloseValue) → Shows r side place (Some (reasons.Peer close)) → GaveClose r (other_side side) place close

-- ---- when they go (section 10.2.1)

-- whether a datagram came to a closing end that opened, under a number that didn't come before
abbrev pub asks_again : Answer → Bool
asks_again (answers.Deliver (receives.Dropped drops.Closing)) = true
asks_again a = false

-- whether an end owes its peer its close behind a call in a state: it gave none since it closed, or
-- since such a datagram came
abbrev pub owed_behind : State → Answer → Bool → Bool
owed_behind states.Open a owed = not (gave a)
owed_behind state a owed = if gave a then false else asks_again a || owed

-- behind the first so many answers
abbrev pub owed : Run → Side → ℕ → Bool
owed r side i = folded (λ (t : Told) (o : Bool). owed_behind t.state t.answer o) (until r side i) true

-- a closing end gives a datagram only where it owes its close
abbrev pub ClosesAreOwed : Run → Type 0
ClosesAreOwed r = (side : Side) (i now : ℕ) → GaveOne r side i now → state_at r side i ≡ states.Closing → owed r side i ≡ true

-- each datagram that an end gives by a poll behind which it isn't open has a close, and nothing
-- beside it but PADDING (section 10.2.1)
abbrev pub ClosesGoAlone : Run → Type 0
ClosesGoAlone r = (side : Side) (i now : ℕ) (gave : GaveOne r side i now) → state_at r side (suc i) ≢ states.Open → IsCloseAlone gave.sent

-- Nothing keeps an end from one close more: its key seals another packet; there is a number for it,
-- before which one may be left out, and that lies near enough to what the peer acknowledged
-- (sections 12.3 and A.2); and the address of its peer is validated.
pub record MayClose (r : Run) (side : Side) (i : ℕ) : Type 0 where
  pub seals : length (given_until r side i) < (policy_at side r.keys).seals
  pub small : next_number (sents_until r side i) + 1 < 2 ^ 62
  pub near : next_number (sents_until r side i) + 1 - acknowledged (took r side i) < 2 ^ 31
  pub validated : (seen_at r side i).validated ≡ true

-- and it does so then, at a poll that is served
abbrev pub OwedClosesGo : Run → Type 0
OwedClosesGo r = (side : Side) (i now : ℕ) → AreServed r (suc i) → state_at r side i ≡ states.Closing → owed r side i ≡ true → MayClose r side i → IsAt r i side (calls.Poll now) (answers.Poll (Ok None)) → ⊥

-- a drained end gives nothing
abbrev pub DrainedAreSilent : Run → Type 0
DrainedAreSilent r = (side : Side) (i now : ℕ) (a : Answer) → IsAt r i side (calls.Poll now) a → state_at r side i ≡ states.Drained → a ≡ answers.Poll (Ok None)
