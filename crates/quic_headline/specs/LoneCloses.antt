-- Why an end isn't open any more, whatever its peer sends, by the calls at it and their answers (RFC
-- 9000, section 10).
use Rattle.std.specs.Prelude.{ℕ, ◌+◌, ◌≤◌, ◌≡◌, ◌⊎◌, max, List, take, slice_get, Option, Some, None, Ok}
use Rattle.quic_wire_core.specs.TransportError.{ErrorValue}
use Rattle.quic_wire.specs.Value.{FrameValue}
use Rattle.quic_wire.specs.Items.{items}
use Rattle.quic_wire.specs.Close.{CloseValue}
use Rattle.quic_packet.specs.Datagram.{Opening}
use Rattle.quic_spaces.specs.Numbers.{cut_against}
use Rattle.quic_machine.specs.declared.answers.State.TheVariants as states
use Rattle.quic_machine.specs.declared.answers.LostReason.{LostReason}
use Rattle.quic_machine.specs.declared.answers.LostReason.TheVariants as reasons
use Rattle.quic_machine.specs.declared.answers.Received.TheVariants as receives
use Rattle.quic_machine.specs.declared.run.CloseCall.{CloseCall}
use Rattle.quic_machine.specs.declared.run.Delivery.{Delivery}
use Rattle.quic_machine.specs.declared.run.Call.{Call}
use Rattle.quic_machine.specs.declared.run.Call.TheVariants as calls
use Rattle.quic_machine.specs.declared.run.Answer.{Answer}
use Rattle.quic_machine.specs.declared.run.Answer.TheVariants as answers
use Rattle.quic_machine.specs.Policy.{Policy}
use Rattle.quic_headline.specs.Runs.{In, frames_of, opens_by_key}
use Rattle.quic_headline.specs.Causes.{AreUsedUp, seals_kept, internal_error}
use Rattle.quic_headline.specs.Closes.{IsToldAs}
use Rattle.quic_headline.specs.Reasons.{Explains}
use Rattle.quic_headline.specs.Alone.{Lone, FollowsAlone}

-- ---- what a call does

-- It handles a moment, and a timer was set to no later one than this or the last that its end had
-- taken over.
pub record Expires (timer : Option ℕ) (clock : ℕ) (call : Call) (a : Answer) : Type 0 where
  pub now : ℕ
  pub called : call ≡ calls.Timeout now
  pub answered : a ≡ answers.Timeout (Ok tt)
  pub moment : ℕ
  pub set : timer ≡ Some moment
  pub due : moment ≤ max clock now

-- It hands in one of these datagrams, which opens by the key of the peer to a packet with this
-- close, and is taken (section 10.2.2).
pub record PeerCloses (p : Policy) (theirs : List (List ℕ)) (close : CloseValue) (call : Call) (a : Answer) : Type 0 where
  pub delivery : Delivery
  pub called : call ≡ calls.Deliver delivery
  pub answered : a ≡ answers.Deliver receives.Taken
  pub bytes : List ℕ
  pub there : slice_get theirs delivery.index ≡ Some bytes
  pub expected : ℕ
  pub opening : Opening
  pub opened : opens_by_key p expected bytes ≡ Some opening
  pub frame : FrameValue
  pub carried : In frame (frames_of (items opening.payload))
  pub told_as : IsToldAs frame close

-- it polls
abbrev pub Polls : Call → Type 0
Polls call = (now : ℕ) × (call ≡ calls.Poll now)

-- bytes came, and it is answered that the end closes with this error
abbrev pub IsRefused : ErrorValue → Answer → Type 0
IsRefused error a = (a ≡ answers.Deliver (receives.Closed error)) ⊎ (a ≡ answers.Inject (receives.Closed error))

-- AEAD_LIMIT_REACHED, of no frame (section 20.1)
abbrev pub aead_limit_reached : ErrorValue
aead_limit_reached = record { code = 15; frame = None }

-- What it does for which an end closes, or is drained, by the reason of that: the application
-- closes it; the peer does; too many pieces of a stream came, or a packet that breaks a rule; the
-- idle timer expires; the key may seal no packet more but closes, or refused as many as it may (RFC
-- 9001, section 6.6); or numbers are used up.
abbrev pub ClosesFor : Policy → List (List ℕ) → LostReason → Lone → Call → Answer → Type 0
ClosesFor p theirs reasons.Application x call a = (close : CloseCall) × (call ≡ calls.Close close)
ClosesFor p theirs (reasons.Peer close) x call a = PeerCloses p theirs close call a
ClosesFor p theirs reasons.Pieces x call a = a ≡ answers.Deliver (receives.Closed internal_error)
ClosesFor p theirs reasons.Idle x call a = Expires x.end.timers.idle x.end.closing.clock call a
ClosesFor p theirs reasons.KeyLimit x call a = (Polls call × (p.seals ≤ x.end.numbers.sealed + seals_kept)) ⊎ (IsRefused aead_limit_reached a × (p.openings ≤ x.heard.failures + 1))
ClosesFor p theirs reasons.NumberLimit x call a = Polls call × AreUsedUp x.end.numbers.next (cut_against x.end.numbers)
ClosesFor p theirs (reasons.Transport error) x call a = a ≡ answers.Deliver (receives.Closed error)

-- What it does for which an end is drained: the peer of an open one closes, or the idle timer
-- expires, or the timer of an end that closes does (sections 10.1 and 10.2).
pub data Drains (p : Policy) (theirs : List (List ℕ)) (x : Lone) (call : Call) (a : Answer) : Type 0 where
  by_peer : x.end.closing.state ≡ states.Open → (close : CloseValue) → PeerCloses p theirs close call a → Drains p theirs x call a
  by_idling : x.end.closing.state ≡ states.Open → Expires x.end.timers.idle x.end.closing.clock call a → Drains p theirs x call a
  by_time : x.end.closing.state ≡ states.Closing → Expires x.end.timers.close x.end.closing.clock call a → Drains p theirs x call a

-- ---- what was done

-- One of these calls did this, by the end that those before it left, by the call, and by its
-- answer.
pub record WasDone (p : Policy) (theirs : List (List ℕ)) (Does : Lone → Call → Answer → Type 0) (x : Lone) (cs : List Call) (told : List Answer) : Type 0 where
  pub place : ℕ
  pub before : Lone
  pub led : FollowsAlone p theirs x (take place cs) (take place told) before
  pub call : Call
  pub called : slice_get cs place ≡ Some call
  pub answer : Answer
  pub answered : slice_get told place ≡ Some answer
  pub does : Does before call answer

-- an open end closes for this reason, or is drained for it
abbrev pub Shuts : Policy → List (List ℕ) → LostReason → Lone → Call → Answer → Type 0
Shuts p theirs why x call a = (x.end.closing.state ≡ states.Open) × ClosesFor p theirs why x call a

-- The end that such calls left has a reason exactly where it closes or is drained, and one of the
-- calls closed it for that.
pub record ClosedForCause (p : Policy) (theirs : List (List ℕ)) (x : Lone) (cs : List Call) (told : List Answer) (left : Lone) : Type 0 where
  pub explained : Explains left.end.closing.state left.end.closing.reason
  pub cause : (why : LostReason) → left.end.closing.reason ≡ Some why → WasDone p theirs (Shuts p theirs why) x cs told

-- It is drained only where one of the calls drained it.
abbrev pub DrainedForCause : Policy → List (List ℕ) → Lone → List Call → List Answer → Lone → Type 0
DrainedForCause p theirs x cs told left = left.end.closing.state ≡ states.Drained → WasDone p theirs (Drains p theirs) x cs told
