-- Calls that ask for timers, or for the state, are answered what views show of them.
use Rattle.std.proofs.Common.{◌≡◌, ℕ, ◌≤◌, zero, suc, ◌⊎◌, inl, inr, min, List, [], ◌∷◌, fold, slice_get, Option, Some, None, refl, sym, ap, ◌∙◌, subst, arith}
use Rattle.std.proofs.lemmas.Bool.{cases_lt}
use Rattle.quic_wire_core.specs.declared.stream_id.Side.{Side}
use Rattle.quic_wire_core.specs.declared.stream_id.Side.TheVariants.{Client, Server}
use Rattle.quic_time.specs.declared.timer.Timer.{Timer}
use Rattle.quic_time.specs.declared.timer.Timer.TheVariants.{LossDetection, Idle, Close, KeyDiscard, PathValidation, KeepAlive, Pacing, PushNewCid, MaxAckDelay}
use Rattle.quic_time.specs.Timers.{Timers, timer_at, each_timer, earlier, next_timer}
use Rattle.quic_machine.specs.declared.run.RunEvent.{RunEvent}
use Rattle.quic_machine.specs.declared.run.Call.{Call}
use Rattle.quic_machine.specs.declared.run.Call.TheVariants as calls
use Rattle.quic_machine.specs.declared.run.Answer.{Answer}
use Rattle.quic_machine.specs.declared.run.Answer.TheVariants as answers
use Rattle.quic_machine.specs.declared.run.EndView.{EndView}
use Rattle.quic_machine.specs.declared.run.View.{View}
use Rattle.quic_machine.specs.End.{End}
use Rattle.quic_machine.specs.Machine.{World, Policies, end_at, control_at, IsStep, end_view, view_of, Follows}
use Rattle.quic_headline.specs.Runs.{Run, In}
use Rattle.quic_headline.specs.Headline.{IsHonest, IsRun}
use Rattle.quic_headline.specs.Polls.{end_in}
use Rattle.quic_headline.specs.Views.{place, IsEarliest, IsShown, ViewsTell}

-- ---- the earliest

-- each moment of some is no earlier than one of others
abbrev AreBehind : List (Option ℕ) → List (Option ℕ) → Type 0
AreBehind ys xs = (m : ℕ) → In (Some m) ys → (n : ℕ) × (n ≤ m) × In (Some n) xs

-- the earliest of some is that of others, which they are behind, and which have it
moved : (xs ys : List (Option ℕ)) (r : Option ℕ) → AreBehind ys xs → ((m : ℕ) → In (Some m) xs → In (Some m) ys) → IsEarliest xs r → IsEarliest ys r
moved xs ys None behind among least = λ m i. (let b = behind m i in least b.0 b.2)
moved xs ys (Some r) behind among least = (among r least.0, λ m i. (let b = behind m i in let first = b.1 in let low = least.1 b.0 b.2 in omega arith))

some_same : (m n : ℕ) → Some m ≡ Some n → m ≡ n
some_same m n e = cc

-- of two, one after the other, the earlier one
fold_earliest : (first : Option ℕ) (ts : List (Option ℕ)) → IsEarliest (first ∷ ts) (fold earlier first ts)
fold_earliest None [] = λ m i. none m i
  where
    none : (m : ℕ) → In (Some m) (None ∷ []) → ⊥
    none m (inl e) = cc
    none m (inr i) = i
fold_earliest (Some a) [] = (inl refl, λ m i. only m i)
  where
    only : (m : ℕ) → In (Some m) (Some a ∷ []) → a ≤ m
    only m (inl e) = let same = some_same m a e in omega arith
    only m (inr i) = absurd i
fold_earliest None (None ∷ ts) = moved (None ∷ ts) (None ∷ None ∷ ts) (fold earlier None ts) behind (λ m i. inr i) (fold_earliest None ts)
  where
    behind : AreBehind (None ∷ None ∷ ts) (None ∷ ts)
    behind m (inl e) = cc
    behind m (inr i) = (m, omega arith, i)
fold_earliest None (Some b ∷ ts) = moved (Some b ∷ ts) (None ∷ Some b ∷ ts) (fold earlier (Some b) ts) behind (λ m i. inr i) (fold_earliest (Some b) ts)
  where
    behind : AreBehind (None ∷ Some b ∷ ts) (Some b ∷ ts)
    behind m (inl e) = cc
    behind m (inr i) = (m, omega arith, i)
fold_earliest (Some a) (None ∷ ts) = moved (Some a ∷ ts) (Some a ∷ None ∷ ts) (fold earlier (Some a) ts) behind among (fold_earliest (Some a) ts)
  where
    behind : AreBehind (Some a ∷ None ∷ ts) (Some a ∷ ts)
    behind m (inl e) = (m, omega arith, inl e)
    behind m (inr (inl e)) = cc
    behind m (inr (inr i)) = (m, omega arith, inr i)

    among : (m : ℕ) → In (Some m) (Some a ∷ ts) → In (Some m) (Some a ∷ None ∷ ts)
    among m (inl e) = inl e
    among m (inr i) = inr (inr i)
fold_earliest (Some a) (Some b ∷ ts) = moved (Some (min a b) ∷ ts) (Some a ∷ Some b ∷ ts) (fold earlier (Some (min a b)) ts) behind among (fold_earliest (Some (min a b)) ts)
  where
    behind : AreBehind (Some a ∷ Some b ∷ ts) (Some (min a b) ∷ ts)
    behind m (inl e) = let same = some_same m a e in (min a b, omega arith, inl refl)
    behind m (inr (inl e)) = let same = some_same m b e in (min a b, omega arith, inl refl)
    behind m (inr (inr i)) = (m, omega arith, inr i)

    either : (min a b ≡ a) ⊎ (min a b ≡ b)
    either = elim (cases_lt a b) [ inl lt ↦ inl (omega (arith, lt)) | inr le ↦ inr (omega (arith, le)) ]

    among : (m : ℕ) → In (Some m) (Some (min a b) ∷ ts) → In (Some m) (Some a ∷ Some b ∷ ts)
    among m (inl e) = elim either [ inl first ↦ inl (e ∙ ap Some first) | inr second ↦ inr (inl (e ∙ ap Some second)) ]
    among m (inr i) = inr (inr i)

-- the next of all timers
next_earliest : (t : Timers) → IsEarliest (each_timer t) (next_timer t)
next_earliest t = moved (None ∷ each_timer t) (each_timer t) (next_timer t) (λ m i. (m, omega arith, inr i)) among (fold_earliest None (each_timer t))
  where
    among : (m : ℕ) → In (Some m) (None ∷ each_timer t) → In (Some m) (each_timer t)
    among m (inl e) = cc
    among m (inr i) = i

-- ---- a step

-- a timer stands at its place
at_place : (timer : Timer) (t : Timers) → slice_get (each_timer t) (place timer) ≡ Some (timer_at timer t)
at_place LossDetection t = refl
at_place Idle t = refl
at_place Close t = refl
at_place KeyDiscard t = refl
at_place PathValidation t = refl
at_place KeepAlive t = refl
at_place Pacing t = refl
at_place PushNewCid t = refl
at_place MaxAckDelay t = refl

-- what is seen of an end in the view of a world
shown_of : (side : Side) (w : World) → end_in (view_of w) side ≡ end_view (control_at side w) (end_at side w)
shown_of Client w = refl
shown_of Server w = refl

-- the view behind a call that asks shows what it is answered
step_tells : (k : Policies) (w next : World) (side : Side) (call : Call) (a : Answer) → IsStep k w (record { side = side; call = call }) a next → IsShown call a (end_in (view_of next) side)
step_tells k w next side (calls.Timer timer) (answers.Timer moment) step =
    let is : answers.Timer moment ≡ answers.Timer (timer_at timer (end_at side w).timers) = step.answer in
    let same : moment ≡ timer_at timer (end_at side w).timers = cc in
    let stays : end_at side next ≡ end_at side w = step.end in
    let left : (end_at side next).timers ≡ (end_at side w).timers = ap (λ (e : End). e.timers) stays in
    ap (λ (v : EndView). slice_get v.timers (place timer)) (shown_of side next)
    ∙ (at_place timer (end_at side next).timers ∙ ap Some (ap (λ (t : Timers). timer_at timer t) left ∙ sym same))
step_tells k w next side calls.NextTimeout (answers.NextTimeout moment) step =
    let is : answers.NextTimeout moment ≡ answers.NextTimeout (next_timer (end_at side w).timers) = step.answer in
    let same : moment ≡ next_timer (end_at side w).timers = cc in
    let stays : end_at side next ≡ end_at side w = step.end in
    let left : (end_at side next).timers ≡ (end_at side w).timers = ap (λ (e : End). e.timers) stays in
    subst (λ (v : EndView). IsEarliest v.timers moment) (sym (shown_of side next)) (subst (λ (t : Timers). IsEarliest (each_timer t) moment) (sym left) (subst (IsEarliest (each_timer (end_at side w).timers)) (sym same) (next_earliest (end_at side w).timers)))
step_tells k w next side calls.State (answers.State state validated) step =
    let is : answers.State state validated ≡ answers.State (end_at side w).closing.state (end_at side w).path.validated = step.answer in
    let state_is : state ≡ (end_at side w).closing.state = cc in
    let validated_is : validated ≡ (end_at side w).path.validated = cc in
    let stays : end_at side next ≡ end_at side w = step.end in (
      state_is ∙ ap (λ (e : End). e.closing.state) (sym stays) ∙ ap (λ (v : EndView). v.state) (sym (shown_of side next)),
      validated_is ∙ ap (λ (e : End). e.path.validated) (sym stays) ∙ ap (λ (v : EndView). v.validated) (sym (shown_of side next)),
    )
step_tells k w next side call a step = tt

-- ---- a run

pub run_tells : (k : Policies) (w end : World) (events : List RunEvent) (told : List Answer) (views : List View) → Follows k w events told views end
    → (side : Side) (i : ℕ) (call : Call) (a : Answer) (view : View) → slice_get events i ≡ Some (record { side = side; call = call }) → slice_get told i ≡ Some a → slice_get views i ≡ Some view → IsShown call a (end_in view side)
run_tells k w end [] told views f side i call a view event answer shown = cc
run_tells k w end (e ∷ events) [] views f side i call a view event answer shown = cc
run_tells k w end (e ∷ events) (b ∷ told) [] f side i call a view event answer shown = cc
run_tells k w end (e ∷ events) (b ∷ told) (v ∷ views) f side zero call a view event answer shown =
    let same_event : e ≡ record { side = side; call = call } = cc in
    let same_answer : b ≡ a = cc in
    let same_view : v ≡ view = cc in
    let step : IsStep k w (record { side = side; call = call }) a f.0 = subst (λ (x : RunEvent). IsStep k w x a f.0) same_event (subst (λ (x : Answer). IsStep k w e x f.0) same_answer f.1) in
    subst (λ (x : View). IsShown call a (end_in x side)) (sym f.2 ∙ same_view) (step_tells k w f.0 side call a step)
run_tells k w end (e ∷ events) (b ∷ told) (v ∷ views) f side (suc i) call a view event answer shown = run_tells k f.0 end events told views f.3 side i call a view event answer shown

-- the clause
pub views_tell : (r : Run) (end : World) → IsHonest r → IsRun r end → ViewsTell r
views_tell r end honest run side i call a view at shown = run_tells r.keys r.start end r.events r.answers r.views run.follows side i call a view at.event at.answer shown
