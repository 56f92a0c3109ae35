-- When the timers of an end are to expire beside those of losses, acknowledgements and the pacer,
-- as an observer of a run's lists reckons it: of being idle, of keep-alive and of path validation,
-- and of a close (RFC 9000, sections 8.2.4, 10.1 and 10.2).
use Rattle.std.specs.Prelude.{ℕ, suc, ◌+◌, ◌*◌, ◌-◌, ◌^◌, ◌≤◌, ◌≡◌, min, max, not, ◌==◌, ◌&&◌, ◌||◌, Bool, true, nat_lt, if◌then◌else◌, List, [], ◌∷◌, length, replicate, slice_get, Option, Some, None, option_map}
use Rattle.std.specs.List.{list_any}
use Rattle.quic_wire_core.specs.declared.stream_id.Side.{Side}
use Rattle.quic_wire_core.specs.StreamId.{other_side}
use Rattle.quic_time.specs.declared.timer.Timer.{Timer}
use Rattle.quic_time.specs.declared.timer.Timer.TheVariants.{Idle, Close, PathValidation, KeepAlive}
use Rattle.quic_config.specs.Transport.{told_timeout}
use Rattle.quic_machine.specs.declared.answers.State.{State}
use Rattle.quic_machine.specs.declared.answers.State.TheVariants as states
use Rattle.quic_machine.specs.declared.answers.LostReason.{LostReason}
use Rattle.quic_machine.specs.declared.answers.LostReason.TheVariants as reasons
use Rattle.quic_machine.specs.declared.run.Call.{Call}
use Rattle.quic_machine.specs.declared.run.Call.TheVariants as calls
use Rattle.quic_machine.specs.declared.run.Answer.{Answer}
use Rattle.quic_machine.specs.declared.run.View.{View}
use Rattle.quic_machine.specs.Machine.{end_at}
use Rattle.quic_headline.specs.Runs.{Run, Told, Packet, state_in, state_at, AreServed, folded, until, given_of}
use Rattle.quic_headline.specs.Observer.{Sent, asks_of, Flight, lesser, latest, waited, is_past, Watch, watch_from, watch, news, clock_behind, is_timely, Lens, watch_told, lens_of, has_changed}
use Rattle.quic_headline.specs.Headline.{IsAt}
use Rattle.quic_headline.specs.Moments.{timers_in, went}
use Rattle.quic_headline.specs.Polls.{end_in, seen_at}
use Rattle.quic_headline.specs.Telling.{shows_validated}
use Rattle.quic_headline.specs.Causes.{reason_in}
use Rattle.quic_headline.specs.Waited.{wants}
use Rattle.quic_headline.specs.Views.{place}

-- ---- what a view shows, and how long is waited

-- a timer of an end in a view, set or not
abbrev pub timer_in : Timer → View → Side → Option (Option ℕ)
timer_in timer v side = slice_get (timers_in v side) (place timer)

-- so long behind a moment
abbrev pub moment_behind : ℕ → ℕ → ℕ
moment_behind moment time = min (moment + time) latest

-- three probe timeouts, by how long a round trip and the peer take (RFC 9002, section 6.2.1)
abbrev pub three_waits : Flight → ℕ
three_waits f = min (waited f 0 * 3) latest

-- ---- being idle (section 10.1)

-- a timeout in milliseconds beside another, if there is one: the lesser of both; 0 is none
abbrev pub lesser_of : ℕ → Option ℕ → Option ℕ
lesser_of millis other = if millis == 0 then other else Some (lesser millis other)

-- how long a connection may be idle, by what both ends were set to, in nanoseconds
abbrev pub idle_time : Run → Side → Option ℕ
idle_time r side =
    option_map (λ (millis : ℕ). min (millis * 1000000) latest)
    (lesser_of (told_timeout (end_at side r.start).transport.max_idle_timeout) (lesser_of (told_timeout (end_at (other_side side) r.start).transport.max_idle_timeout) None))

-- What an observer knows of an end that hears nothing: when it was idle for long enough, if it may
-- be; and whether no datagram went that asks since a packet came, or since the first call.
pub record Silence : Type 0 where
  pub watch : Watch
  pub over : Option ℕ
  pub quiet : Bool

-- whether the time begins anew: a packet comes, or a datagram goes that asks and is the first such
-- behind one
abbrev pub begins_anew : List Packet → List Sent → Bool → Bool
begins_anew came sents quiet = nat_lt 0 (length came) || (list_any asks_of sents && quiet)

-- when it is over if it begins now: it lasts three probe timeouts at least
abbrev pub idle_from : Option ℕ → Watch → Option ℕ
idle_from time w = option_map (λ (long : ℕ). moment_behind w.clock (max long (three_waits w.flight))) time

-- what is known behind a call at which these go, and these packets come
abbrev pub silence_behind : Option ℕ → List Sent → List Packet → Watch → Silence → Silence
silence_behind time sents came after s = record {
  watch = after;
  over = (if begins_anew came sents s.quiet then idle_from time after else s.over);
  quiet = nat_lt 0 (length came) || (s.quiet && not (list_any asks_of sents));
}

-- one call more at the end
abbrev pub silence_told : Option ℕ → Lens → Told → Silence → Silence
silence_told time l t s = let after = watch_told l t s.watch in silence_behind time (went s.watch after) (news s.watch.intake after.intake) after s

-- before the first call no such time has begun
abbrev pub first_silence : Watch → Silence
first_silence w = record { watch = w; over = None; quiet = true }

-- what is known of an end behind the first so many answers
abbrev pub silence : Run → Side → ℕ → Silence
silence r side i = folded (silence_told (idle_time r side) (lens_of r side)) (until r side i) (first_silence (watch_from (end_at side r.start) (given_of r side)))

-- behind each event before which, and at which, no delivery, no poll and no timeout met want of
-- memory, the view shows of an open end that its idle timer is set to the moment at which it was
-- idle for long enough, and that it isn't set where no timeout is agreed on, or no packet came and
-- none that asks went
abbrev pub IdleMoments : Run → Type 0
IdleMoments r = (side : Side) (i : ℕ) (v : View) → AreServed r (suc i) → slice_get r.views i ≡ Some v → state_in v side ≡ states.Open → timer_in Idle v side ≡ Some (silence r side (suc i)).over

-- ---- keep-alive (section 10.1.2)

-- and that its timer of keep-alive is set to the moment at which no packet came, and no datagram
-- went, for as long as it is set to; and that it isn't set once that expired
abbrev pub AliveMoments : Run → Type 0
AliveMoments r = (side : Side) (i : ℕ) (v : View) → AreServed r (suc i) → slice_get r.views i ≡ Some v → state_in v side ≡ states.Open → timer_in KeepAlive v side ≡ Some (wants r side (suc i)).alive

-- ---- path validation (section 8.2.4)

-- an end asks whether its peer receives so often at most
abbrev pub most_questions : ℕ
most_questions = 2 ^ 64 - 1

-- What an observer knows of how an end asks whether its peer receives: how often it did, when it
-- asks anew if no answer came, and how many calls there were.
pub record Questions : Type 0 where
  pub watch : Watch
  pub count : ℕ
  pub due : Option ℕ
  pub calls : ℕ

-- an end asks, or asks once more, behind so many calls: it waits for three probe timeouts
abbrev pub one_more : Watch → ℕ → ℕ → Questions
one_more w count calls =
    if nat_lt count most_questions then record { watch = w; count = count + 1; due = Some (moment_behind w.clock (three_waits w.flight)); calls = calls }
    else record { watch = w; count = count; due = None; calls = calls }

-- whether an end asks anew by a call, before which the address of its peer is seen to be validated or
-- isn't: its path changed by it (section 9.3); or the moment came to one that isn't validated
abbrev pub asks_anew : Bool → Told → Watch → Questions → Bool
asks_anew validated t after q = has_changed q.watch after || (is_timely t.state t.call && (is_past q.due after.clock && not validated))

-- one call more at the end, where before its call behind so many others the address is seen to be
-- validated or isn't
abbrev pub questions_told : Lens → (ℕ → Bool) → Told → Questions → Questions
questions_told l validated t q =
    let after = watch_told l t q.watch in
    if asks_anew (validated q.calls) t after q then one_more after q.count (suc q.calls) else record q { watch = after; calls = suc q.calls }

-- an end asks as it is made, but where the address of its peer is validated
abbrev pub first_questions : Bool → Watch → Questions
first_questions validated w = if validated then record { watch = w; count = 0; due = None; calls = 0 } else one_more w 0 0

-- how it does before the first call
abbrev pub questions_at_first : Run → Side → Questions
questions_at_first r side = first_questions (end_at side r.start).path.validated (watch_from (end_at side r.start) (given_of r side))

-- how an end asked behind the first so many answers
abbrev pub questions : Run → Side → ℕ → Questions
questions r side i = folded (questions_told (lens_of r side) (shows_validated r side)) (until r side i) (questions_at_first r side)

-- and that its timer of path validation is set to the moment at which it asks anew, while the
-- address of its peer isn't validated, and isn't set where it is: also of another path, for which the
-- end asks as it changes
abbrev pub PathMoments : Run → Type 0
PathMoments r = (side : Side) (i : ℕ) (v : View) → AreServed r (suc i) → slice_get r.views i ≡ Some v → state_in v side ≡ states.Open
    → timer_in PathValidation v side ≡ Some (if (end_in v side).validated then None else (questions r side (suc i)).due)

-- ---- a close (section 10.2)

-- Of the timers of an end that of its close alone is set.
pub record IsCloseSet (timers : List (Option ℕ)) : Type 0 where
  pub moment : ℕ
  pub alone : timers ≡ None ∷ None ∷ Some moment ∷ replicate 6 None

-- of the timers of a closing end that one alone is set, and none of one that is drained or has
-- failed
abbrev pub HasOnlyClose : State → List (Option ℕ) → Type 0
HasOnlyClose states.Open timers = Unit {0}
HasOnlyClose states.Closing timers = IsCloseSet timers
HasOnlyClose states.Drained timers = timers ≡ replicate 9 None
HasOnlyClose states.Failed timers = timers ≡ replicate 9 None

-- so it is in each view
abbrev pub ClosedTimers : Run → Type 0
ClosedTimers r = (side : Side) (i : ℕ) (v : View) → slice_get r.views i ≡ Some v → HasOnlyClose (state_in v side) (timers_in v side)

-- the moment that a call tells, if it tells one
abbrev pub moment_told : Call → Option ℕ
moment_told (calls.Poll now) = Some now
moment_told (calls.Timeout now) = Some now
moment_told (calls.Close close) = Some close.now
moment_told (calls.Deliver delivery) = Some delivery.now
moment_told (calls.Inject injection) = Some injection.now
moment_told call = None

-- an end closes of itself: its application closes it, or a limit is reached. Where it closes for a
-- packet that it refuses, it may have measured a round trip by a frame of that packet, which the
-- lists don't tell
abbrev pub IsOfItself : Option LostReason → Type 0
IsOfItself (Some reasons.Application) = Unit {0}
IsOfItself (Some reasons.KeyLimit) = Unit {0}
IsOfItself (Some reasons.NumberLimit) = Unit {0}
IsOfItself reason = ⊥

-- where a call closes an end so, the view shows that the timer of its close is set to three probe
-- timeouts behind the moment of the call, or the greatest that it had taken over
abbrev pub CloseMoments : Run → Type 0
CloseMoments r = (side : Side) (i : ℕ) (call : Call) (a : Answer) (v : View) → AreServed r (suc i) → IsAt r i side call a → slice_get r.views i ≡ Some v
    → state_at r side i ≡ states.Open → state_in v side ≡ states.Closing → IsOfItself (reason_in v side)
    → timer_in Close v side ≡ Some (Some (moment_behind (clock_behind (watch r side i).clock (moment_told call)) (three_waits (watch r side i).flight)))

-- that timer stays as it is while the end is closing
abbrev pub CloseMomentsStay : Run → Type 0
CloseMomentsStay r = (side : Side) (i : ℕ) (v : View) → slice_get r.views i ≡ Some v → state_at r side i ≡ states.Closing → state_in v side ≡ states.Closing
    → timer_in Close v side ≡ slice_get (seen_at r side i).timers (place Close)

-- the greatest moment that calls told an end
abbrev pub greatest_told : List Told → ℕ
greatest_told [] = 0
greatest_told (t ∷ ts) = clock_behind (greatest_told ts) (moment_told t.call)

-- a closing end is drained where it is told that the moment of that timer has come, and nothing
-- else drains it before a call told it so
abbrev pub DrainsInTime : Run → Type 0
DrainsInTime r = (side : Side) (i moment : ℕ) (call : Call) (a : Answer) (v : View) → AreServed r (suc i) → IsAt r i side call a → slice_get r.views i ≡ Some v
    → state_at r side i ≡ states.Closing → slice_get (seen_at r side i).timers (place Close) ≡ Some (Some moment)
    → ((now : ℕ) → call ≡ calls.Timeout now → moment ≤ now → state_in v side ≡ states.Drained)
    × (state_in v side ≡ states.Drained → moment ≤ max (end_at side r.start).closing.clock (greatest_told (until r side (suc i))))
