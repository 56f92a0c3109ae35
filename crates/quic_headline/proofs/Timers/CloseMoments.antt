-- When an end that closed of itself is drained, as an observer of the run's lists reckons it; and a
-- closing end is drained then, and no sooner.
use Rattle.std.proofs.Common.{◌≡◌, ℕ, suc, ◌+◌, ◌≤◌, max, Bool, true, List, [], ◌∷◌, ◌++◌, slice_get, Option, Some, None, sym, ap, ◌∙◌, subst, arith}
use Rattle.std.proofs.lemmas.Bool.{leb-true, le-leb}
use Rattle.quic_wire_core.specs.declared.stream_id.Side.{Side}
use Rattle.quic_wire_core.specs.StreamId.{other_side}
use Rattle.quic_time.specs.Clocks.{saturated}
use Rattle.quic_time.specs.Timers.{Timers, has_come}
use Rattle.quic_time.specs.declared.timer.Timer.TheVariants.{Close}
use Rattle.quic_machine.specs.declared.answers.State.{State}
use Rattle.quic_machine.specs.declared.answers.State.TheVariants as states
use Rattle.quic_machine.specs.declared.answers.LostReason.{LostReason}
use Rattle.quic_machine.specs.declared.run.RunEvent.{RunEvent}
use Rattle.quic_machine.specs.declared.run.Call.{Call}
use Rattle.quic_machine.specs.declared.run.Call.TheVariants as calls
use Rattle.quic_machine.specs.declared.run.Answer.{Answer}
use Rattle.quic_machine.specs.declared.run.EndView.{EndView}
use Rattle.quic_machine.specs.declared.run.View.{View}
use Rattle.quic_machine.specs.Policy.{Policy}
use Rattle.quic_machine.specs.Closing.{ticked}
use Rattle.quic_machine.specs.Heard.{Heard}
use Rattle.quic_machine.specs.Control.{Control}
use Rattle.quic_machine.specs.End.{End, with_closing, three_timeouts}
use Rattle.quic_machine.specs.Timeouts.{close_expired, timed_out_in, timed_out}
use Rattle.quic_machine.specs.Machine.{World, end_at, control_at, heard_at, given_by, policy_at, reads_window, after_call, fails}
use Rattle.quic_headline.specs.Runs.{Run, Told, state_in, state_at, until, AreServed}
use Rattle.quic_headline.specs.Observer.{Terms, terms_of, Flight, clock_behind, Watch, watch}
use Rattle.quic_headline.specs.Headline.{IsHonest, IsRun, IsAt}
use Rattle.quic_headline.specs.Causes.{reason_in}
use Rattle.quic_headline.specs.Polls.{seen_at, IsMade}
use Rattle.quic_headline.specs.Views.{place}
use Rattle.quic_headline.specs.Expiring.{timer_in, moment_behind, three_waits, moment_told, IsOfItself, CloseMoments, greatest_told, DrainsInTime}
use Rattle.quic_headline.proofs.Halves.Ready.{Ready}
use Rattle.quic_headline.proofs.Packets.Flying.{Tells, held}
use Rattle.quic_headline.proofs.Places.Parties.{told_of, Party, called}
use Rattle.quic_headline.proofs.Places.Groups.{Way, Nothing, Group, early_group}
use Rattle.quic_headline.proofs.Places.Moments.{last_seen, state_shown}
use Rattle.quic_headline.proofs.Places.Placed.{Placed, placed, shown, watch_is}
use Rattle.quic_headline.proofs.Places.Everything as everything
use Rattle.quic_headline.proofs.Places.Theorems.{ready}
use Rattle.quic_headline.proofs.Held.Behind.{Last, last_step}
use Rattle.quic_headline.proofs.Steps.Made.{served_before, made_end, one_behind}
use Rattle.quic_headline.proofs.Causes.Shown.{reason_there}
use Rattle.quic_headline.proofs.Timers.Watched.{timers_behind}
use Rattle.quic_headline.proofs.Timers.Waits.{three_waited}
use Rattle.quic_headline.proofs.Timers.Closed.{Turns, stays_open, stays_so, closes_now, drained_now, closed_long, Does, is_apart, has_stopped, is_called, call_goes, step_does, state_there}

-- ---- how long an end is closing

-- the moment at which an end is drained that closes by a call which tells this moment or none
abbrev close_due : Option ℕ → End → ℕ
close_due told e = saturated (clock_behind e.closing.clock told + three_timeouts e)

due_told : (told : Option ℕ) (t : Terms) (now : ℕ) (f : Flight) (e : End) → Tells t now f (held e) → close_due told e ≡ moment_behind (clock_behind now told) (three_waits f)
due_told told t now f e w =
    ap (λ (n : ℕ). saturated (clock_behind n told + three_timeouts e)) (sym w.clock)
    ∙ ap (λ (n : ℕ). saturated (clock_behind now told + n)) (sym (three_waited t now f e w))

-- ---- what a step makes of the timer

-- an open end that closes of itself sets it to that moment
turns_close : (told : Option ℕ) (e f : End) → Turns told e.closing e.timers (three_timeouts e) f.closing f.timers → e.closing.state ≡ states.Open → f.closing.state ≡ states.Closing → IsOfItself f.closing.reason → f.timers.close ≡ Some (close_due told e)
turns_close told e f (stays_open was is) opened closing own = let clash : states.Open ≡ states.Closing = sym is ∙ closing in cc
turns_close told e f (stays_so state timers) opened closing own = let clash : states.Open ≡ states.Closing = sym opened ∙ sym state ∙ closing in cc
turns_close told e f (closes_now reason moment was is why timers due) opened closing own =
    ap (λ (t : Timers). t.close) timers ∙ ap (λ (n : ℕ). Some n) (due (subst (λ (o : Option LostReason). IsOfItself o) why own))
turns_close told e f (drained_now was is timers) opened closing own = let clash : states.Drained ≡ states.Closing = sym is ∙ closing in cc
turns_close told e f (closed_long was is timers come) opened closing own = let clash : states.Closing ≡ states.Open = sym was ∙ opened in cc

does_close : (told : Option ℕ) (failed : Bool) (e f : End) → Does told failed e f → e.closing.state ≡ states.Open → f.closing.state ≡ states.Closing → IsOfItself f.closing.reason → f.timers.close ≡ Some (close_due told e)
does_close told failed e f (is_apart same) opened closing own = let clash : states.Open ≡ states.Closing = sym opened ∙ ap (λ (x : End). x.closing.state) (sym same) ∙ closing in cc
does_close told failed e f (has_stopped stops) opened closing own = let clash : states.Failed ≡ states.Closing = sym stops.0 ∙ closing in cc
does_close told failed e f (is_called goes) opened closing own = turns_close told e f goes.1 opened closing own

-- a closing end is drained only where it was closing for long enough
turns_drain : (told : Option ℕ) (e f : End) → Turns told e.closing e.timers (three_timeouts e) f.closing f.timers → e.closing.state ≡ states.Closing → f.closing.state ≡ states.Drained → has_come e.timers.close f.closing.clock ≡ true
turns_drain told e f (stays_open was is) closing drained = let clash : states.Open ≡ states.Closing = sym was ∙ closing in cc
turns_drain told e f (stays_so state timers) closing drained = let clash : states.Closing ≡ states.Drained = sym closing ∙ sym state ∙ drained in cc
turns_drain told e f (closes_now reason moment was is why timers due) closing drained = let clash : states.Open ≡ states.Closing = sym was ∙ closing in cc
turns_drain told e f (drained_now was is timers) closing drained = let clash : states.Open ≡ states.Closing = sym was ∙ closing in cc
turns_drain told e f (closed_long was is timers come) closing drained = come

does_drain : (told : Option ℕ) (failed : Bool) (e f : End) → Does told failed e f → e.closing.state ≡ states.Closing → f.closing.state ≡ states.Drained → has_come e.timers.close f.closing.clock ≡ true
does_drain told failed e f (is_apart same) closing drained = let clash : states.Closing ≡ states.Drained = sym closing ∙ ap (λ (x : End). x.closing.state) (sym same) ∙ drained in cc
does_drain told failed e f (has_stopped stops) closing drained = let clash : states.Failed ≡ states.Drained = sym stops.0 ∙ drained in cc
does_drain told failed e f (is_called goes) closing drained = turns_drain told e f goes.1 closing drained

-- a timeout drains it where that is so
timed_drains : (p : Policy) (e : End) (now moment : ℕ) → e.closing.state ≡ states.Closing → e.timers.close ≡ Some moment → moment ≤ now → (timed_out p e now).end.closing.state ≡ states.Drained
timed_drains p e now moment closing set late =
    ap (λ (s : State). (timed_out_in s p e now).end.closing.state) closing
    ∙ ap (λ (b : Bool). (close_expired b (with_closing e (ticked e.closing now))).closing.state) come
  where
    come : has_come e.timers.close (max e.closing.clock now) ≡ true
    come = ap (λ (o : Option ℕ). has_come o (max e.closing.clock now)) set ∙ le-leb moment (max e.closing.clock now) (omega (arith, late))

call_drains : (p : Policy) (control : Control) (heard : Heard) (e : End) (theirs : List (List ℕ)) (call : Call) (a : Answer) (now moment : ℕ) → call ≡ calls.Timeout now → e.closing.state ≡ states.Closing → e.timers.close ≡ Some moment → moment ≤ now
    → (after_call p (reads_window control heard call e) theirs call a).closing.state ≡ states.Drained
call_drains p control heard e theirs call a now moment is closing set late =
    subst (λ (c : Call). (after_call p (reads_window control heard c e) theirs c a).closing.state ≡ states.Drained) (sym is) (timed_drains p e now moment closing set late)

-- ---- the clock of an end

-- it is no later than the moment at which the end was made, or the greatest that calls told it
told_clock : (n made : ℕ) (ts : List Told) (t : Told) → n ≤ max made (greatest_told ts) → clock_behind n (moment_told t.call) ≤ max made (greatest_told (ts ++ t ∷ []))
told_clock n made [] t below = go (moment_told t.call)
  where
    go : (o : Option ℕ) → clock_behind n o ≤ max made (clock_behind 0 o)
    go None = below
    go (Some now) = omega (arith, below)
told_clock n made (u ∷ us) t below = go (moment_told u.call) below (λ m under. told_clock n m us t under)
  where
    go : (o : Option ℕ) → n ≤ max made (clock_behind (greatest_told us) o) → ((m : ℕ) → n ≤ max m (greatest_told us) → clock_behind n (moment_told t.call) ≤ max m (greatest_told (us ++ t ∷ [])))
        → clock_behind n (moment_told t.call) ≤ max made (clock_behind (greatest_told (us ++ t ∷ [])) o)
    go None under more = more made under
    go (Some now) under more = let behind = more (max made now) (omega (arith, under)) in omega (arith, behind)

abbrev KnowsClock : Way
KnowsClock x y = x.end.closing.clock ≤ max x.began (greatest_told x.told)

most_of : (n m : ℕ) → n ≤ max n m
most_of n m = omega arith

clock_behind_call : (x y : Party) (call : Call) (a : Answer) → KnowsClock x y → KnowsClock (called x y.given call a) y
clock_behind_call x y call a knows =
    let goes = call_goes x.policy x.end y.given call a in
    let first = goes.0 in
    let second = told_clock x.end.closing.clock x.began x.told (told_of call a x.end.closing.state) knows in
    omega (arith, first, second)

clock_group : Group Nothing KnowsClock
clock_group = early_group Nothing KnowsClock (record {
  first = λ x y m. most_of x.making.moment 0;
  writer = λ x y call a c gives takes. clock_behind_call x y call a gives;
  reader = λ x y call a c gives takes. takes;
  shows = λ x y here there knows. knows;
})

-- ---- a place where an end is called

some_same : (o p : Option ℕ) → Some o ≡ Some p → o ≡ p
some_same o p is = cc

module _ (r : Run) (end : World) (honest : IsHonest r) (run : IsRun r end) (side : Side) (i : ℕ) (call : Call) (a : Answer) (v : View) (served : AreServed r (suc i)) (called_at : IsAt r i side call a) (there : slice_get r.views i ≡ Some v) where
  -- the ends behind the call, and those before it
  at : Placed KnowsClock r end side (suc i)
  at = placed KnowsClock clock_group r end honest run side (suc i) served

  abbrev event : RunEvent
  event = record { side = side; call = call }

  last : Last r.keys i r.start at.world r.events r.answers r.views event a
  last = last_step r.keys i r.start at.world r.events r.answers r.views event a called_at.event called_at.answer at.leads

  abbrev before : End
  before = end_at side last.before

  abbrev behind : End
  behind = end_at side at.world

  -- what the call does
  does : Does (moment_told call) (fails a) before behind
  does = step_does side r.keys last.before at.world event a last.step

  state_before : state_at r side i ≡ before.closing.state
  state_before = state_there side r.keys i r.start last.before r.events r.answers r.views last.leads

  state_behind : state_in v side ≡ behind.closing.state
  state_behind = ap (λ (u : View). state_in u side) (shown r at.world i v at.leads there) ∙ state_shown side at.world

  -- ---- it closes

  reason_behind : reason_in v side ≡ behind.closing.reason
  reason_behind = ap (λ (u : View). reason_in u side) (shown r at.world i v at.leads there) ∙ reason_there side at.world

  -- the observer of an open end knows when it is drained that closes now
  due_before : state_at r side i ≡ states.Open → close_due (moment_told call) before ≡ moment_behind (clock_behind (watch r side i).clock (moment_told call)) (three_waits (watch r side i).flight)
  due_before opened =
      let here = placed (everything.All Ready ready) (everything.all Ready ready) r end honest run side i (served_before r.answers i served) in
      let same : here.world ≡ last.before = one_behind r i here.world last.before (served_before r.answers i served) here.leads last.leads in
      let tells = (here.gives.1.watched.flight (here.state ∙ opened)).tells in
      let seen = watch_is r honest here.world i side here.sents here.theirs in
      subst (λ (w : World). close_due (moment_told call) (end_at side w) ≡ moment_behind (clock_behind (watch r side i).clock (moment_told call)) (three_waits (watch r side i).flight)) same
      (due_told (moment_told call) (terms_of (end_at side r.start)) _ _ (end_at side here.world) tells ∙ ap (λ (u : Watch). moment_behind (clock_behind u.clock (moment_told call)) (three_waits u.flight)) (sym seen))

  pub closes_then : state_at r side i ≡ states.Open → state_in v side ≡ states.Closing → IsOfItself (reason_in v side)
      → timer_in Close v side ≡ Some (Some (moment_behind (clock_behind (watch r side i).clock (moment_told call)) (three_waits (watch r side i).flight)))
  closes_then opened closing own =
      let set : behind.timers.close ≡ Some (close_due (moment_told call) before) =
      does_close (moment_told call) (fails a) before behind does (sym state_before ∙ opened) (sym state_behind ∙ closing) (subst (λ (o : Option LostReason). IsOfItself o) reason_behind own) in
      ap (λ (ts : List (Option ℕ)). slice_get ts (place Close)) (timers_behind r at.world i v side at.leads there)
      ∙ ap (λ (o : Option ℕ). Some o) (set ∙ ap (λ (n : ℕ). Some n) (due_before opened))

  -- ---- it is drained

  module _ (moment : ℕ) (closing : state_at r side i ≡ states.Closing) (seen : slice_get (seen_at r side i).timers (place Close) ≡ Some (Some moment)) where
    set_before : before.timers.close ≡ Some moment
    set_before = some_same before.timers.close (Some moment) (sym (ap (λ (s : EndView). slice_get s.timers (place Close)) (last_seen side r.keys i r.start last.before r.events r.answers r.views last.leads)) ∙ seen)

    closing_before : before.closing.state ≡ states.Closing
    closing_before = sym state_before ∙ closing

    -- where a timeout tells it that the moment has come
    pub drained_then : (now : ℕ) → call ≡ calls.Timeout now → moment ≤ now → state_in v side ≡ states.Drained
    drained_then now is late =
        let made : IsMade r i side call a last.before at.world = record { at = called_at; leads = last.leads; step = last.step; served = served } in
        state_behind ∙ ap (λ (e : End). e.closing.state) (made_end r i side call a last.before at.world made)
        ∙ call_drains (policy_at side r.keys) (control_at side last.before) (heard_at side last.before) before (given_by (other_side side) last.before) call a now moment is closing_before set_before late

    -- and only once it was told so
    pub no_sooner : state_in v side ≡ states.Drained → moment ≤ max (end_at side r.start).closing.clock (greatest_told (until r side (suc i)))
    no_sooner drained =
        let come : has_come before.timers.close behind.closing.clock ≡ true = does_drain (moment_told call) (fails a) before behind does closing_before (sym state_behind ∙ drained) in
        let past = leb-true moment behind.closing.clock (ap (λ (o : Option ℕ). has_come o behind.closing.clock) (sym set_before) ∙ come) in
        let told = at.gives in
        omega (arith, past, told)

-- ---- the clauses

pub close_moments : (r : Run) (end : World) → IsHonest r → IsRun r end → CloseMoments r
close_moments r end honest run side i call a v served at there opened closing own = closes_then r end honest run side i call a v served at there opened closing own

pub drains_in_time : (r : Run) (end : World) → IsHonest r → IsRun r end → DrainsInTime r
drains_in_time r end honest run side i moment call a v served at there closing seen = (
  drained_then r end honest run side i call a v served at there moment closing seen,
  no_sooner r end honest run side i call a v served at there moment closing seen,
)
