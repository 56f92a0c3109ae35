-- Two ends that talk until both rest.
use Rattle.std.specs.Prelude.{ℕ, ◌+◌, ◌≡◌, ◌≢◌, ◌≤◌, ◌⊎◌, max, Bool, true, false, List, [], ◌∷◌, length, Option, Some, None, Result, Ok, Err}
use Rattle.quic_wire_core.specs.declared.stream_id.Side.{Side}
use Rattle.quic_wire_core.specs.declared.stream_id.Side.TheVariants.{Client, Server}
use Rattle.quic_wire_core.specs.StreamId.{other_side}
use Rattle.quic_time.specs.Timers.{Timers, earlier}
use Rattle.quic_machine.specs.declared.answers.State.TheVariants as states
use Rattle.quic_machine.specs.declared.run.Call.TheVariants as calls
use Rattle.quic_machine.specs.declared.run.Answer.{Answer}
use Rattle.quic_machine.specs.declared.run.Answer.TheVariants as answers
use Rattle.quic_machine.specs.declared.run.RunEvent.{RunEvent}
use Rattle.quic_machine.specs.End.{End}
use Rattle.quic_machine.specs.Machine.{gave, World, Policies, IsStep, end_at, given_by}

-- ---- ends and timers

-- An end is still: it is open, and waits for no moment of loss, of acknowledgements or of pacing.
pub record IsStill (e : End) : Type 0 where
  pub is_open : e.closing.state ≡ states.Open
  pub no_loss_timer : e.timers.loss_detection ≡ None
  pub no_ack_timer : e.timers.max_ack_delay ≡ None
  pub no_pacing_timer : e.timers.pacing ≡ None

-- Both ends are still.
pub record AreStill (w : World) : Type 0 where
  pub client : IsStill w.client
  pub server : IsStill w.server

-- Both ends are open.
pub record AreOpen (w : World) : Type 0 where
  pub client : w.client.closing.state ≡ states.Open
  pub server : w.server.closing.state ≡ states.Open

-- an end isn't open
abbrev pub HasClosed : World → Type 0
HasClosed w = (w.client.closing.state ≢ states.Open) ⊎ (w.server.closing.state ≢ states.Open)

-- the earliest of the timers that a talk waits for, at one end
abbrev pub end_wakes : Timers → Option ℕ
end_wakes t = earlier t.loss_detection (earlier t.max_ack_delay t.pacing)

-- the earliest of those of both ends
abbrev pub wakes : World → Option ℕ
wakes w = earlier (end_wakes w.client.timers) (end_wakes w.server.timers)

-- ---- the turns of a talk

-- the most polls of a talk
abbrev pub most_polls : ℕ
most_polls = 10000

-- where a talk is in its rounds
pub data Round : Type 0 where
  -- an end is polled next, and whether a datagram was given in this round
  asks : Side → Bool → Round
  -- both were polled, and neither gave a datagram: a timer is waited for next, if one is set
  quiet : Round

-- behind a poll of an end that gave a datagram, or none: it is polled again until it gives none,
-- and then the other, the client first. Where a datagram was given, a new round begins behind the
-- server
abbrev pub polled_on : Side → Bool → Bool → Round
polled_on side before true = asks side true
polled_on Client before false = asks Server before
polled_on Server true false = asks Client false
polled_on Server false false = quiet

-- a turn of a talk
pub data Turn : Type 0 where
  -- an end is polled, and what it gives is delivered
  polls : Turn
  -- both ends wait for a timer
  awaits : Turn

-- how many turns are polls
abbrev pub polls_in : List Turn → ℕ
polls_in [] = 0
polls_in (polls ∷ turns) = 1 + polls_in turns
polls_in (awaits ∷ turns) = polls_in turns

-- an end is polled at a moment
abbrev pub poll_event : Side → ℕ → RunEvent
poll_event side now = record { side = side; call = calls.Poll now }

-- a datagram of an end is delivered to the other one, from where that one has its peer, and without
-- a mark
abbrev pub delivery_event : Side → World → ℕ → ℕ → RunEvent
delivery_event side w now index = record { side = other_side side; call = calls.Deliver (record { now = now; remote = (end_at (other_side side) w).path.remote; ecn = None; index = index }) }

-- an end handles a moment
abbrev pub timeout_event : Side → ℕ → RunEvent
timeout_event side now = record { side = side; call = calls.Timeout now }

-- what an end gave is delivered to the other one, where it gave something
abbrev pub IsPassedOn : Bool → Policies → Side → ℕ → ℕ → World → World → Type 0
IsPassedOn true k side now index w to = (answer : Answer) × IsStep k w (delivery_event side w now index) answer to
IsPassedOn false k side now index w to = to ≡ w

-- Both ends are open, and one is polled at a moment, which gives a datagram or none; a datagram is
-- delivered to the other one at once, without a mark.
pub record IsPolled (k : Policies) (side : Side) (now : ℕ) (has_given : Bool) (w to : World) : Type 0 where
  pub are_open : AreOpen w
  pub answer : Answer
  pub next : World
  pub poll : IsStep k w (poll_event side now) answer next
  pub gives : gave answer ≡ has_given
  pub delivered : IsPassedOn (gave answer) k side now (length (given_by side w)) next to

-- Both ends handle a moment, the client first.
pub record IsHandled (k : Policies) (moment : ℕ) (w to : World) : Type 0 where
  pub client_answer : Answer
  pub middle : World
  pub client : IsStep k w (timeout_event Client moment) client_answer middle
  pub server_answer : Answer
  pub server : IsStep k middle (timeout_event Server moment) server_answer to

-- Both ends are open behind a round that gave no datagram. The earliest timer of loss, of
-- acknowledgements or of pacing is waited for, unless it has come, and both handle the moment.
pub record IsWaited (k : Policies) (now moment : ℕ) (w to : World) : Type 0 where
  pub are_open : AreOpen w
  pub wake : ℕ
  pub wakes : wakes w ≡ Some wake
  pub is : moment ≡ max now wake
  pub handled : IsHandled k moment w to

-- turns lead from one moment, place in a round and world to others
abbrev pub IsTalk : Policies → ℕ → Round → World → List Turn → ℕ → Round → World → Type 0
IsTalk k now at w [] moment end to = (moment ≡ now) × (end ≡ at) × (to ≡ w)
IsTalk k now (asks side before) w (polls ∷ turns) moment end to =
    (mid : World) × (gave : Bool) × IsPolled k side now gave w mid × IsTalk k now (polled_on side before gave) mid turns moment end to
IsTalk k now quiet w (awaits ∷ turns) moment end to =
    (mid : World) × (next : ℕ) × IsWaited k now next w mid × IsTalk k next (asks Client false) mid turns moment end to
IsTalk k now quiet w (polls ∷ turns) moment end to = ⊥
IsTalk k now (asks side before) w (awaits ∷ turns) moment end to = ⊥

-- Such turns, from one place to another, where so many polls were left before them, and so many are
-- behind them.
pub record Talks (k : Policies) (now moment : ℕ) (at end : Round) (before after : ℕ) (from to : World) : Type 0 where
  pub turns : List Turn
  pub talk : IsTalk k now at from turns moment end to
  pub left : polls_in turns + after ≡ before

-- Such turns to some place.
pub record Leads (k : Policies) (now moment : ℕ) (at : Round) (before after : ℕ) (from to : World) : Type 0 where
  pub end : Round
  pub talks : Talks k now moment at end before after from to

-- ---- where memory lacked

-- An end was polled, and what it gave wasn't delivered.
pub record IsHalfPolled (k : Policies) (side : Side) (now : ℕ) (w to : World) : Type 0 where
  pub answer : Answer
  pub poll : IsStep k w (poll_event side now) answer to

-- The client handled a moment, and the server didn't.
pub record IsHalfHandled (k : Policies) (moment : ℕ) (w to : World) : Type 0 where
  pub answer : Answer
  pub client : IsStep k w (timeout_event Client moment) answer to

-- The earliest timer was waited for, and only the client handled the moment.
pub record IsHalfWaited (k : Policies) (now : ℕ) (w to : World) : Type 0 where
  pub wake : ℕ
  pub wakes : wakes w ≡ Some wake
  pub handled : IsHalfHandled k (max now wake) w to

-- the next turn at a place was begun
abbrev pub IsBegun : Policies → ℕ → Round → World → World → Type 0
IsBegun k now (asks side before) w to = IsHalfPolled k side now w to
IsBegun k now quiet w to = IsHalfWaited k now w to

-- the next turn at a place may have been begun
abbrev pub IsCut : Policies → ℕ → Round → World → World → Type 0
IsCut k now at w to = (to ≡ w) ⊎ IsBegun k now at w to

-- Turns were made with at most so many polls, and then the next may have been begun.
pub record IsCutOff (k : Policies) (now : ℕ) (at : Round) (before : ℕ) (from to : World) : Type 0 where
  pub turns : List Turn
  pub moment : ℕ
  pub end : Round
  pub last : World
  pub talk : IsTalk k now at from turns moment end last
  pub at_most : polls_in turns ≤ before
  pub cut : IsCut k moment end last to

-- ---- rest

-- what a poll answers that gives no datagram
abbrev pub no_datagram : Answer
no_datagram = answers.Poll (Ok None)

-- Two ends rest at a moment, behind turns from one before. It is judged by answers: at this moment
-- the client and then the server were polled, both answered `None`, and no call was made behind
-- these; both are open, and wait for no moment. Whether their paths are validated (RFC 9000,
-- section 8.1) isn't asked.
pub record AreAtRest (k : Policies) (now : ℕ) (from : World) (moment : ℕ) (to : World) : Type 0 where
  pub turns : List Turn
  pub before : World
  pub between : World
  pub talk : IsTalk k now (asks Client false) from turns moment (asks Client false) before
  pub client_answers : IsStep k before (poll_event Client moment) no_datagram between
  pub server_answers : IsStep k between (poll_event Server moment) no_datagram to
  pub still : AreStill to

-- ---- a whole talk

-- how a talk ends behind its turns, by its answer
abbrev pub EndsAs : {E : Type 0} → Result (Option ℕ) E → Policies → List Turn → ℕ → Round → World → World → Type 0
EndsAs (Ok (Some rest)) k turns moment end last to = (rest ≡ moment) × (end ≡ quiet) × (to ≡ last) × AreStill last
EndsAs (Ok None) k turns moment end last to = (to ≡ last) × (HasClosed last ⊎ (polls_in turns ≡ most_polls))
EndsAs (Err e) k turns moment end last to = IsCut k moment end last to

-- Two ends talked from a moment on, in rounds of which the first polls the client, with at most
-- 10000 polls: they rest at the moment that was answered, behind a round without a datagram, or
-- were given up where an end isn't open or no poll was left, or memory lacked.
pub record Settles {E : Type 0} (k : Policies) (now : ℕ) (from : World) (answer : Result (Option ℕ) E) (to : World) : Type 0 where
  pub turns : List Turn
  pub moment : ℕ
  pub end : Round
  pub last : World
  pub talk : IsTalk k now (asks Client false) from turns moment end last
  pub at_most : polls_in turns ≤ most_polls
  pub ends : EndsAs answer k turns moment end last to
