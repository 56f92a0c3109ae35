-- What calls answer of timers, of the state and of the peer's address, and what views show of them.
use Rattle.std.specs.Prelude.{ℕ, ◌≡◌, ◌≤◌, List, slice_get, Option, Some, None}
use Rattle.quic_wire_core.specs.declared.stream_id.Side.{Side}
use Rattle.quic_time.specs.declared.timer.Timer.{Timer}
use Rattle.quic_time.specs.declared.timer.Timer.TheVariants.{LossDetection, Idle, Close, KeyDiscard, PathValidation, KeepAlive, Pacing, PushNewCid, MaxAckDelay}
use Rattle.quic_machine.specs.declared.run.Call.{Call}
use Rattle.quic_machine.specs.declared.run.Call.TheVariants as calls
use Rattle.quic_machine.specs.declared.run.Answer.{Answer}
use Rattle.quic_machine.specs.declared.run.Answer.TheVariants as answers
use Rattle.quic_machine.specs.declared.run.EndView.{EndView}
use Rattle.quic_machine.specs.declared.run.View.{View}
use Rattle.quic_headline.specs.Runs.{Run, In}
use Rattle.quic_headline.specs.Headline.{IsAt}
use Rattle.quic_headline.specs.Polls.{end_in}

-- the place of a timer in a view
abbrev pub place : Timer → ℕ
place LossDetection = 0
place Idle = 1
place Close = 2
place KeyDiscard = 3
place PathValidation = 4
place KeepAlive = 5
place Pacing = 6
place PushNewCid = 7
place MaxAckDelay = 8

-- the earliest of these moments, or none where none is set
abbrev pub IsEarliest : List (Option ℕ) → Option ℕ → Type 0
IsEarliest timers None = (moment : ℕ) → In (Some moment) timers → ⊥
IsEarliest timers (Some earliest) = In (Some earliest) timers × ((moment : ℕ) → In (Some moment) timers → earliest ≤ moment)

-- A call that asks when a timer expires is answered what is seen of it at the end, one that asks
-- for the next one the earliest of them, and one that asks for the state and whether the peer's
-- address is validated both.
abbrev pub IsShown : Call → Answer → EndView → Type 0
IsShown (calls.Timer timer) (answers.Timer moment) seen = slice_get seen.timers (place timer) ≡ Some moment
IsShown calls.NextTimeout (answers.NextTimeout moment) seen = IsEarliest seen.timers moment
IsShown calls.State (answers.State state validated) seen = (state ≡ seen.state) × (validated ≡ seen.validated)
IsShown call a seen = Unit {0}

-- such a call is answered what the view behind it shows
abbrev pub ViewsTell : Run → Type 0
ViewsTell r = (side : Side) (i : ℕ) (call : Call) (a : Answer) (view : View) → IsAt r i side call a → slice_get r.views i ≡ Some view → IsShown call a (end_in view side)
