-- The moments at which timers are to expire, as an observer of a run's lists reckons them (RFC
-- 9002, section 6.2.1, and RFC 9000, section 13.2.1). Its constants are its own: it reads nothing
-- of an end but what the end gave, and what a view shows.
use Rattle.std.specs.Prelude.{ℕ, suc, ◌+◌, ◌-◌, ◌^◌, ◌≡◌, min, Bool, true, false, if◌then◌else◌, List, [], ◌∷◌, ◌++◌, drop, length, slice_get, Option, Some, None}
use Rattle.std.specs.List.{list_any}
use Rattle.quic_wire_core.specs.declared.stream_id.Side.{Side}
use Rattle.quic_wire_core.specs.declared.stream_id.Side.TheVariants.{Client, Server}
use Rattle.quic_wire.specs.Value.{FrameValue, ack, asks}
use Rattle.quic_machine.specs.declared.answers.State.TheVariants as states
use Rattle.quic_machine.specs.declared.run.View.{View}
use Rattle.quic_machine.specs.Machine.{end_at}
use Rattle.quic_headline.specs.Runs.{Run, Told, Packet, In, IsNamed, state_in, AreServed, folded, until, given_of}
use Rattle.quic_headline.specs.Requested.{requested}
use Rattle.quic_headline.specs.Observer.{Sent, asks_of, Watch, loss_due, watch_from, watch, took, sents_until, news, Lens, watch_told, lens_of}

-- ---- what a view shows

-- the timers that a view shows of an end, each set or not
abbrev pub timers_in : View → Side → List (Option ℕ)
timers_in v Client = v.client.timers
timers_in v Server = v.server.timers

-- the timer of losses in a view: the first of them
abbrev pub loss_timer : View → Side → Option (Option ℕ)
loss_timer v side = slice_get (timers_in v side) 0

-- ---- over a run

-- behind each event before which, and at which, no delivery, no poll and no timeout met want of
-- memory, the view shows of an open end that its loss timer is set to the moment that the observer
-- reckons: when the first datagram is lost by time, or else a backed-off probe timeout behind the
-- last that asks; and that it isn't set where none in flight asks
abbrev pub LossMoments : Run → Type 0
LossMoments r = (side : Side) (i : ℕ) (v : View) → AreServed r (suc i) → slice_get r.views i ≡ Some v → state_in v side ≡ states.Open → loss_timer v side ≡ Some (loss_due (watch r side (suc i)).flight)

-- each datagram that an end gave before a place, and that asks, is named in an ACK frame that the
-- end took before it (RFC 9000, section 19.3)
abbrev pub AllNamed : Run → Side → ℕ → Type 0
AllNamed r side i = (s : Sent) → In s (sents_until r side i) → asks_of s ≡ true → IsNamed (took r side i) s.number

-- behind each event before which, and at which, no delivery, no poll and no timeout met want of
-- memory: where all that an open end gave and that asks was acknowledged, the view shows that its
-- loss timer isn't set
abbrev pub LossTimerQuiet : Run → Type 0
LossTimerQuiet r = (side : Side) (i : ℕ) (v : View) → AreServed r (suc i) → slice_get r.views i ≡ Some v → state_in v side ≡ states.Open → AllNamed r side (suc i) → loss_timer v side ≡ Some None

-- ---- when an acknowledgement is due (RFC 9000, section 13.2.1)

-- the timer of acknowledgements in a view: the last of the nine
abbrev pub ack_timer : View → Side → Option (Option ℕ)
ack_timer v side = slice_get (timers_in v side) 8

-- whether a frame is an ACK frame
abbrev pub is_ack : FrameValue → Bool
is_ack (ack a) = true
is_ack other = false

-- whether an ACK frame stands in one of these datagrams
abbrev pub acknowledges : List Sent → Bool
acknowledges ss = list_any (λ s. list_any is_ack s.frames) ss

-- what the end gave between them
abbrev pub went : Watch → Watch → List Sent
went before after = drop (length before.own) after.own

-- until when these packets are to be acknowledged, which came at a moment, where an acknowledgement
-- may wait so long: once for each that asks for one
abbrev pub deadlines_of : List Packet → ℕ → ℕ → List ℕ
deadlines_of [] delay moment = []
deadlines_of (p ∷ ps) delay moment = if list_any asks p.frames then min (moment + delay) (2 ^ 64 - 1) ∷ deadlines_of ps delay moment else deadlines_of ps delay moment

-- what an observer knows of an end, and until when the packets are to be acknowledged that ask, and
-- were taken since the end gave an ACK frame, the latest first
pub record Debt : Type 0 where
  pub watch : Watch
  pub deadlines : List ℕ

-- those behind a call: an ACK frame that goes ends them. A packet that comes may wait as long as
-- the peer asked for by then, in the packet itself at the latest; whoever waits already, waits as
-- before
abbrev pub deadlines_behind : Debt → Watch → List ℕ
deadlines_behind d after =
    if acknowledges (went d.watch after) then [] else deadlines_of (news d.watch.intake after.intake) (requested after.intake.took).delay after.clock ++ d.deadlines

-- one call more at the end
abbrev pub debt_told : Lens → Told → Debt → Debt
debt_told l t d = let after = watch_told l t d.watch in record { watch = after; deadlines = deadlines_behind d after }

-- nothing came before the first call
abbrev pub first_debt : Watch → Debt
first_debt w = record { watch = w; deadlines = [] }

-- what the observer of an end knows by the first so many answers
abbrev pub debt : Run → Side → ℕ → Debt
debt r side i = folded (debt_told (lens_of r side)) (until r side i) (first_debt (watch_from (end_at side r.start) (given_of r side)))

-- the deadline of the packet that came first, where that of the latest stands first
abbrev pub first_deadline : List ℕ → Option ℕ
first_deadline [] = None
first_deadline (deadline ∷ []) = Some deadline
first_deadline (later ∷ deadline ∷ deadlines) = first_deadline (deadline ∷ deadlines)

-- behind each event before which, and at which, no delivery, no poll and no timeout met want of
-- memory: where the view shows the timer of acknowledgements of an open end set, it is set to the
-- deadline of the first packet that asks, and that was taken since the end gave an ACK frame: 25 ms
-- behind the moment at which it came, or as long as the peer asked for by then
abbrev pub AckMoments : Run → Type 0
AckMoments r = (side : Side) (i moment : ℕ) (v : View) → AreServed r (suc i) → slice_get r.views i ≡ Some v → state_in v side ≡ states.Open → ack_timer v side ≡ Some (Some moment) → first_deadline (debt r side (suc i)).deadlines ≡ Some moment
