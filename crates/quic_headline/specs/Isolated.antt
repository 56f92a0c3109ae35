-- What doesn't open at an end, and what came before, changes nothing there while keys last, so a
-- run less it is a run again (RFC 9000, sections 5.2, 12.2 and 12.3).
use Rattle.std.specs.Prelude.{ℕ, suc, ◌≡◌, Bool, true, false, not, ◌||◌, if◌then◌else◌, List, [], ◌∷◌, ◌++◌, take, slice_get, Option, Some, None}
use Rattle.quic_wire_core.specs.declared.stream_id.Side.{Side}
use Rattle.quic_wire_core.specs.StreamId.{other_side}
use Rattle.quic_machine.specs.declared.answers.DropReason.{DropReason}
use Rattle.quic_machine.specs.declared.answers.DropReason.TheVariants as drops
use Rattle.quic_machine.specs.declared.answers.Received.TheVariants as receives
use Rattle.quic_machine.specs.declared.run.RunEvent.{RunEvent}
use Rattle.quic_machine.specs.declared.run.Call.{Call}
use Rattle.quic_machine.specs.declared.run.Call.TheVariants as calls
use Rattle.quic_machine.specs.declared.run.Answer.{Answer}
use Rattle.quic_machine.specs.declared.run.Answer.TheVariants as answers
use Rattle.quic_packet.specs.Datagram.{Opening}
use Rattle.quic_machine.specs.declared.answers.State.TheVariants as states
use Rattle.quic_machine.specs.declared.run.View.{View}
use Rattle.quic_machine.specs.Machine.{World, policy_at, end_at, Follows, says_last}
use Rattle.quic_headline.specs.Runs.{Run, given_of, handed, is_again, came_open, state_in, AreServed}
use Rattle.quic_headline.specs.Observer.{watch}
use Rattle.quic_headline.specs.Headline.{IsAt, IsRun}
use Rattle.quic_headline.specs.Polls.{end_in}

-- ---- idle events

-- Whether an end that drops a datagram for this reason makes nothing of it: all do but a closing
-- one, for which the number counts as seen.
abbrev pub drops_whole : DropReason → Bool
drops_whole drops.Closing = false
drops_whole reason = true

-- an idle event: an injection, whatever it is answered, or a delivery that is dropped whole
abbrev pub is_idle : Call → Answer → Bool
is_idle (calls.Inject injection) a = true
is_idle (calls.Deliver delivery) (answers.Deliver (receives.Dropped reason)) = drops_whole reason
is_idle call a = false

-- ---- a run less some of its events

-- a list less what stands at the places that are left out
abbrev pub without : {X : Type 0} → (ℕ → Bool) → List X → List X
without gone [] = []
without gone (x ∷ xs) = if gone 0 then without (λ i. gone (suc i)) xs else x ∷ without (λ i. gone (suc i)) xs

-- only idle events are left out
abbrev pub OnlyIdle : Run → (ℕ → Bool) → Type 0
OnlyIdle r gone = (side : Side) (i : ℕ) (call : Call) (a : Answer) → gone i ≡ true → IsAt r i side call a → is_idle call a ≡ true

-- a run less the events at these places, with their answers and the views behind them; the ends
-- gave the same datagrams
abbrev pub erased : (ℕ → Bool) → Run → Run
erased gone r = record r { events = without gone r.events; answers = without gone r.answers; views = without gone r.views }

-- the same ends, with the same controllers, which gave the same datagrams, whatever they have
-- counted
abbrev pub SameButCounts : World → World → Type 0
SameButCounts end left = left ≡ record end { client_heard = left.client_heard; server_heard = left.server_heard }

-- Less the events at these places it is a run again, from the same start to the same ends: each
-- call that stays is answered as it was, each view behind one is the same, and both ends gave the
-- same datagrams. The ends have counted other datagrams then: each counts what comes, also what is
-- dropped.
abbrev pub IsRunWithout : (ℕ → Bool) → Run → World → Type 0
IsRunWithout gone r end = (left : World) × SameButCounts end left × IsRun (erased gone r) left

-- At each end fewer packets fail to open than its peer's key may refuse (RFC 9001, section 6.6):
-- none closes for that, by its answers. Each that doesn't open counts.
abbrev pub FailuresStayBelow : Run → Type 0
FailuresStayBelow r = (i : ℕ) (a : Answer) → slice_get r.answers i ≡ Some a → says_last a ≡ false

-- The peers' addresses are validated at both ends, from the start on, in each view of an end that
-- hasn't failed (RFC 9000, section 8): else what comes says how much may go, also where it is dropped.
pub record AreValidated (r : Run) : Type 0 where
  pub start : (side : Side) → (end_at side r.start).path.validated ≡ true
  pub behind : (side : Side) (i : ℕ) (v : View) → slice_get r.views i ≡ Some v → (state_in v side ≡ states.Failed → ⊥) → (end_in v side).validated ≡ true

-- so it is less any choice of its idle events, where keys last and the addresses are validated
-- throughout
abbrev pub Isolated : Run → World → Type 0
Isolated r end = AreValidated r → (gone : ℕ → Bool) → OnlyIdle r gone → FailuresStayBelow r → IsRunWithout gone r end

-- ---- the choice by answers

-- whether a call hands in any bytes
abbrev pub is_injection : Call → Bool
is_injection (calls.Inject injection) = true
is_injection call = false

-- whether a datagram that is dropped for this reason didn't open, for its address, its header, its
-- key or its key phase, or came before
abbrev pub is_shut_out : DropReason → Bool
is_shut_out drops.Address = true
is_shut_out drops.TooShort = true
is_shut_out drops.NotShort = true
is_shut_out drops.FixedBit = true
is_shut_out drops.UnknownId = true
is_shut_out drops.NotOpened = true
is_shut_out drops.KeyPhase = true
is_shut_out drops.Duplicate = true
is_shut_out reason = false

-- an injection, or a delivery that was dropped so
abbrev pub is_answered_idle : Call → Answer → Bool
is_answered_idle (calls.Inject injection) a = true
is_answered_idle (calls.Deliver delivery) (answers.Deliver (receives.Dropped reason)) = is_shut_out reason
is_answered_idle call a = false

-- what is so of an event and its answer, where both are there
abbrev pub of_both : (RunEvent → Answer → Bool) → Option RunEvent → Option Answer → Bool
of_both holds (Some event) (Some a) = holds event a
of_both holds event a = false

-- the places of a run whose events and answers are so
abbrev pub places_of : (ℕ → RunEvent → Answer → Bool) → Run → ℕ → Bool
places_of holds r i = of_both (holds i) (slice_get r.events i) (slice_get r.answers i)

-- the places of what was answered so
abbrev pub answered_idle : Run → ℕ → Bool
answered_idle r = places_of (λ i event a. is_answered_idle event.call a) r

-- less these it is a run again, where keys last
abbrev pub IsolatedByAnswers : Run → World → Type 0
IsolatedByAnswers r end = AreValidated r → FailuresStayBelow r → IsRunWithout (answered_idle r) r end

-- ---- the choice by the lists

-- whether a packet opened, under a number that is no duplicate behind these (section 12.3)
abbrev pub is_new : Option Opening → List ℕ → Bool
is_new None numbers = false
is_new (Some o) numbers = not (is_again o.number numbers)

-- Whether a datagram that is handed to an end, which answers so, opens there and is no duplicate,
-- by the run's lists: with the end's keys, where one above the greatest number that it took is
-- expected, in key phase 0, under another number than those that opened before, and not answered
-- that it was sent to no id of the end's (sections 5.2, 12.2 and 12.3, and A.3).
abbrev pub is_new_at : Run → Side → ℕ → Answer → List ℕ → Bool
is_new_at r side i a d = let came = (watch r side i).intake in is_new (came_open (policy_at side r.keys) came.took a d) came.opened

-- whether a datagram is handed in, and is nothing new
abbrev pub is_nothing_new : Run → Side → ℕ → Answer → Option (List ℕ) → Bool
is_nothing_new r side i a None = false
is_nothing_new r side i a (Some d) = not (is_new_at r side i a d)

-- an injection, or a delivery of a datagram that is nothing new
abbrev pub brings_nothing : Run → ℕ → RunEvent → Answer → Bool
brings_nothing r i event a = is_injection event.call || is_nothing_new r event.side i a (handed (given_of r (other_side event.side)) event.call a)

-- the places of what is so by the lists
abbrev pub listed_idle : Run → ℕ → Bool
listed_idle r = places_of (brings_nothing r) r

-- these datagrams are the first of others
abbrev pub AreFirst : List (List ℕ) → List (List ℕ) → Type 0
AreFirst ds all = (rest : List (List ℕ)) × (ds ++ rest ≡ all)

-- The first so many events of a run, less those at these places: they are answered as they were,
-- with the same views, and lead to ends that gave the first datagrams of those that the ends give.
pub record GoesOnWithout (gone : ℕ → Bool) (r : Run) (i : ℕ) : Type 0 where
  pub world : World
  pub follows : Follows r.keys r.start (without gone (take i r.events)) (without gone (take i r.answers)) (without gone (take i r.views)) world
  pub client : AreFirst world.from_client r.from_client
  pub server : AreFirst world.from_server r.from_server

-- less these it is a run again, up to each place before which memory served, where keys last
abbrev pub IsolatedByLists : Run → Type 0
IsolatedByLists r = AreValidated r → (i : ℕ) → AreServed r i → FailuresStayBelow r → GoesOnWithout (listed_idle r) r i
