-- Why an end closes between honest ends (RFC 9000, sections 10.2 and 20), by the run's lists and
-- the views behind its answers.
use Rattle.std.specs.Prelude.{ℕ, ◌+◌, ◌-◌, ◌/◌, ◌^◌, ◌<◌, ◌≤◌, ◌≡◌, ◌⊎◌, max, not, ◌==◌, Bool, eqb, true, false, List, [], ◌∷◌, ◌++◌, filter, length, slice_get, Option, Some, None, Ok}
use Rattle.std.specs.List.{IsDistinct}
use Rattle.quic_wire_core.specs.declared.stream_id.Side.{Side}
use Rattle.quic_wire_core.specs.declared.stream_id.Side.TheVariants.{Client, Server}
use Rattle.quic_wire_core.specs.StreamId.{other_side}
use Rattle.quic_wire.specs.Value.{FrameValue, StreamValue, stream}
use Rattle.quic_wire.specs.Items.{items}
use Rattle.quic_wire.specs.Close.{CloseValue}
use Rattle.quic_packet.specs.Datagram.{Opening}
use Rattle.quic_machine.specs.declared.answers.State.TheVariants as states
use Rattle.quic_machine.specs.declared.answers.LostReason.{LostReason}
use Rattle.quic_machine.specs.declared.answers.LostReason.TheVariants as reasons
use Rattle.quic_machine.specs.declared.answers.DropReason.TheVariants as drops
use Rattle.quic_machine.specs.declared.answers.Received.{Received}
use Rattle.quic_machine.specs.declared.answers.Received.TheVariants as receives
use Rattle.quic_machine.specs.declared.run.CloseCall.{CloseCall}
use Rattle.quic_machine.specs.declared.run.Call.TheVariants as calls
use Rattle.quic_machine.specs.declared.run.Answer.{Answer}
use Rattle.quic_machine.specs.declared.run.Answer.TheVariants as answers
use Rattle.quic_machine.specs.declared.run.View.{View}
use Rattle.quic_wire_core.specs.TransportError.{ErrorValue}
use Rattle.quic_machine.specs.Policy.{Policy}
use Rattle.quic_machine.specs.Machine.{policy_at, end_at}
use Rattle.quic_headline.specs.Runs.{Run, Told, Packet, Intake, nothing_came, and_told, folded, given_of, until, AreServed, In, frames_of, is_again, handed, came_open, acknowledged, reads, offsets_of, HasArrived, given_until, state_at}
use Rattle.quic_headline.specs.Observer.{Sent, closes_of, took, sents_until, next_number, watch}
use Rattle.quic_headline.specs.Headline.{IsAt}
use Rattle.quic_headline.specs.Moments.{timers_in}
use Rattle.quic_headline.specs.Rest.{view_behind}

-- ---- what a view shows

-- why an end isn't open any more, as a view shows it
abbrev pub reason_in : View → Side → Option LostReason
reason_in v Client = v.client.reason
reason_in v Server = v.server.reason

-- behind the answer at a place, up to which no delivery, no poll and no timeout met want of memory,
-- the view shows this of an end
pub record Shows (r : Run) (side : Side) (place : ℕ) (reason : Option LostReason) : Type 0 where
  pub served : AreServed r (place + 1)
  pub view : View
  pub there : slice_get r.views place ≡ Some view
  pub is : reason_in view side ≡ reason

-- ---- who is to blame

-- an end is open, or closed for something else than a rule that the other end broke
abbrev pub IsBlameless : Option LostReason → Type 0
IsBlameless (Some (reasons.Transport error)) = ⊥
IsBlameless reason = Unit {0}

-- no end closes for a rule that the other one broke
abbrev pub NoBlame : Run → Type 0
NoBlame r = (side : Side) (place : ℕ) (reason : Option LostReason) → Shows r side place reason → IsBlameless reason

-- ---- closes

-- Up to a place an end had closed, for whatever reason: the view behind an answer up to there shows
-- one.
pub record HadClosed (r : Run) (side : Side) (place : ℕ) : Type 0 where
  pub earlier : ℕ
  pub up_to : earlier ≤ place
  pub reason : LostReason
  pub shown : Shows r side earlier (Some reason)

-- an end is closed by its peer only where that had closed (RFC 9000, section 10.2)
abbrev pub PeerClosed : Run → Type 0
PeerClosed r = (side : Side) (place : ℕ) (close : CloseValue) → Shows r side place (Some (reasons.Peer close)) → HadClosed r (other_side side) place

-- Up to a place the application closed an end that was open.
pub record WasClosed (r : Run) (side : Side) (place : ℕ) : Type 0 where
  pub earlier : ℕ
  pub up_to : earlier ≤ place
  pub close : CloseCall
  pub called : IsAt r earlier side (calls.Close close) answers.Close
  pub was_open : state_at r side earlier ≡ states.Open

-- an end is closed by its application only where that closed it while it was open
abbrev pub ApplicationClosed : Run → Type 0
ApplicationClosed r = (side : Side) (place : ℕ) → Shows r side place (Some reasons.Application) → WasClosed r side place

-- ---- being idle

-- the idle timer in a view: the second of the nine
abbrev pub idle_timer : View → Side → Option (Option ℕ)
idle_timer v side = slice_get (timers_in v side) 1

-- Up to a place an end handled a moment, and the view before showed its idle timer set to no later
-- one than this or the last that it had taken over.
pub record WasIdle (r : Run) (side : Side) (place : ℕ) : Type 0 where
  pub earlier : ℕ
  pub up_to : earlier ≤ place
  pub now : ℕ
  pub called : IsAt r earlier side (calls.Timeout now) (answers.Timeout (Ok tt))
  pub view : View
  pub before : view_behind r earlier ≡ Some view
  pub moment : ℕ
  pub set : idle_timer view side ≡ Some (Some moment)
  pub due : moment ≤ max (watch r side earlier).clock now

-- an end closes for being idle only where its idle timer had expired (section 10.1)
abbrev pub IdleExpired : Run → Type 0
IdleExpired r = (side : Side) (place : ℕ) → Shows r side place (Some reasons.Idle) → WasIdle r side place

-- ---- keys that are used up

-- how many packets a key keeps back for closes
abbrev pub seals_kept : ℕ
seals_kept = 8

-- no key seals more packets than it may (RFC 9001, section 6.6), and each that doesn't close is
-- sealed while it may seal eight more besides
abbrev pub KeysLast : Run → Type 0
KeysLast r = (side : Side) (i : ℕ) → AreServed r i → (length (given_until r side i) ≤ (policy_at side r.keys).seals)
    × ((place : ℕ) (s : Sent) → slice_get (sents_until r side i) place ≡ Some s → closes_of s ≡ false → place + seals_kept < (policy_at side r.keys).seals)

-- whether an answer says that a packet came which didn't open: it was dropped for this, or the end
-- closed for it, with AEAD_LIMIT_REACHED (section 20.1)
abbrev pub is_unopened : Received → Bool
is_unopened (receives.Dropped drops.NotOpened) = true
is_unopened (receives.Closed error) = error.code == 15
is_unopened a = false

-- so it is of the answers of calls that hand bytes in
abbrev pub says_unopened : Answer → Bool
says_unopened (answers.Deliver a) = is_unopened a
says_unopened (answers.Inject a) = is_unopened a
says_unopened a = false

-- how many of the packets that came to an end didn't open
abbrev pub unopened : List Told → ℕ
unopened told = length (filter (λ t. says_unopened t.answer) told)

-- the datagrams that an end gave by the first so many answers and that don't close its connection
abbrev pub ordinary : Run → Side → ℕ → List Sent
ordinary r side i = filter (λ s. not (closes_of s)) (sents_until r side i)

-- An end's own key seals no further packet but closes, where it gave so many ordinary datagrams; or
-- its peer's refused as many packets as it may (RFC 9001, section 6.6).
abbrev pub IsKeyUsedUp : Policy → ℕ → ℕ → Type 0
IsKeyUsedUp p given failed = (p.seals ≤ given + seals_kept) ⊎ (p.openings ≤ failed)

-- an end closes for a limit of its keys only where one is reached
abbrev pub KeyLimited : Run → Type 0
KeyLimited r = (side : Side) (place : ℕ) → Shows r side place (Some reasons.KeyLimit)
    → IsKeyUsedUp (policy_at side r.keys) (length (ordinary r side (place + 1))) (unopened (until r side (place + 1)))

-- ---- used-up numbers

-- how many numbers are kept back for closes
abbrev pub kept_back : ℕ
kept_back = 16

-- An ordinary datagram can't be numbered, where this is the next number, and this the greatest that
-- was acknowledged: with the numbers that are kept for closes, numbers would reach 2^62, or lie
-- 2^31 or more above the greatest acknowledged (RFC 9000, sections 12.3 and A.2).
abbrev pub AreUsedUp : ℕ → ℕ → Type 0
AreUsedUp next acknowledged = (2 ^ 62 ≤ next + kept_back) ⊎ (2 ^ 31 ≤ next - acknowledged + kept_back)

-- an end closes for used-up numbers only where they are
abbrev pub NumberLimit : Run → Type 0
NumberLimit r = (side : Side) (place : ℕ) → Shows r side place (Some reasons.NumberLimit) → AreUsedUp (next_number (ordinary r side (place + 1))) (acknowledged (took r side (place + 1)))

-- ---- too many pieces

-- A maximal run of a set of offsets begins at this one: it is in the set, and the offset right
-- before it isn't.
pub record BeginsRun (S : ℕ → Type 0) (offset : ℕ) : Type 0 where
  pub here : S offset
  pub alone : (before : ℕ) → before + 1 ≡ offset → S before → ⊥

-- A set of offsets has more than so many maximal runs: at more than so many offsets one begins.
pub record HasMoreRuns (S : ℕ → Type 0) (count : ℕ) : Type 0 where
  pub starts : List ℕ
  pub distinct : IsDistinct eqb starts
  pub begins : (offset : ℕ) → In offset starts → BeginsRun S offset
  pub more : count < length starts

-- an offset of a stream arrived in these packets, and wasn't read by these calls
abbrev pub IsUnread : List Packet → List Told → ℕ → ℕ → Type 0
IsUnread packets told id offset = HasArrived packets id offset × (In offset (offsets_of (reads id told)) → ⊥)

-- what came by these calls to an end with these keys; `given` are the datagrams that the other end
-- gave
abbrev pub came_by : Policy → List (List ℕ) → List Told → Intake
came_by p given told = folded (and_told p given) told nothing_came

-- Of the calls at an end with these keys, one handed a datagram to the end while it was open, which
-- opened to a packet that was no duplicate. `given` are the datagrams that the other end gave.
pub record PacketCame (p : Policy) (given : List (List ℕ)) (told : List Told) : Type 0 where
  -- the calls before that one, it, and those behind it
  pub before : List Told
  pub call : Told
  pub behind : List Told
  pub split : told ≡ before ++ call ∷ behind
  pub was_open : call.state ≡ states.Open
  -- what it handed in
  pub datagram : List ℕ
  pub handed_in : handed given call.call call.answer ≡ Some datagram
  -- what that opened to, by what had come before
  pub opening : Opening
  pub opened : came_open p (came_by p given before).took call.answer datagram ≡ Some opening
  pub new : is_again opening.number (came_by p given before).opened ≡ false

-- It has a STREAM frame with which more than so many runs of its stream had arrived and not been
-- read: in the packets that were taken before it, and in its own frames up to that one.
pub record IsCrowded (p : Policy) (given : List (List ℕ)) (told : List Told) (c : PacketCame p given told) (count : ℕ) : Type 0 where
  -- its frames before that one, it, and those behind it
  pub front : List FrameValue
  pub frame : StreamValue
  pub rest : List FrameValue
  pub frames : frames_of (items c.opening.payload) ≡ front ++ stream frame ∷ rest
  pub many : HasMoreRuns (IsUnread (record { number = c.opening.number; frames = front ++ stream frame ∷ [] } ∷ (came_by p given c.before).took) c.before frame.id) count

-- so many runs of a stream may wait to be read, where so many bytes more than were read may come on
-- it: one for each 1,024 of these bytes, and 2048 at least (RFC 9000, section 21.7)
abbrev pub most_runs : ℕ → ℕ
most_runs window = max 2048 (window / 1024)

-- how many bytes more than were read may come on a stream of an end, as it was made
abbrev pub stream_window_at : Run → Side → ℕ
stream_window_at r side = (end_at side r.start).streams.receiving.stream_window

-- INTERNAL_ERROR, of no frame (section 20.1)
abbrev pub internal_error : ErrorValue
internal_error = record { code = 1; frame = None }

-- one that has it came to an end whose streams have so large a receive window
pub record CrowdCame (p : Policy) (window : ℕ) (given : List (List ℕ)) (told : List Told) : Type 0 where
  pub packet : PacketCame p given told
  pub crowded : IsCrowded p given told packet (most_runs window)

-- an end closes for too many pieces only where more runs of one stream had arrived and not been
-- read than may wait
abbrev pub TooManyPieces : Run → Type 0
TooManyPieces r = (side : Side) (place : ℕ) → Shows r side place (Some reasons.Pieces) → CrowdCame (policy_at side r.keys) (stream_window_at r side) (given_of r (other_side side)) (until r side (place + 1))

-- A packet that came was taken whole; or it was refused, by INTERNAL_ERROR, and came to too many
-- pieces.
abbrev pub IsTakenOrCrowded : (p : Policy) (window : ℕ) (given : List (List ℕ)) (told : List Told) → PacketCame p given told → Type 0
IsTakenOrCrowded p window given told c = (c.call.answer ≡ answers.Deliver receives.Taken) ⊎ ((c.call.answer ≡ answers.Deliver (receives.Closed internal_error)) × IsCrowded p given told c (most_runs window))

-- each packet that comes is taken whole, unless it comes to too many pieces: so it is the rules of
-- receiving that say which packets an end takes, and not what it answers
abbrev pub TakenOrTooMany : Run → Type 0
TakenOrTooMany r = (side : Side) (i : ℕ) → AreServed r i → (c : PacketCame (policy_at side r.keys) (given_of r (other_side side)) (until r side i))
    → IsTakenOrCrowded (policy_at side r.keys) (stream_window_at r side) (given_of r (other_side side)) (until r side i) c
