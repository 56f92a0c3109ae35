-- Behind the last call at an end, the end and its controller stay as that call left them, while
-- only the other end is called.
use Rattle.std.proofs.Common.{◌≡◌, ℕ, zero, suc, ◌<◌, ◌≤◌, List, [], ◌∷◌, ◌++◌, take, Bool, true, false, Some, refl, sym, ap, ◌∙◌, arith}
use Rattle.std.specs.Prelude.{slice_get, if◌then◌else◌}
use Rattle.std.specs.List.{list_any}
use Rattle.std.proofs.lemmas.Bool.{or_parts, or_from}
use Rattle.quic_wire_core.specs.declared.stream_id.Side.{Side}
use Rattle.quic_wire_core.specs.declared.stream_id.Side.TheVariants.{Client, Server}
use Rattle.quic_machine.specs.declared.answers.State.{State}
use Rattle.quic_machine.specs.declared.run.RunEvent.{RunEvent}
use Rattle.quic_machine.specs.declared.run.Call.{Call}
use Rattle.quic_machine.specs.declared.run.Answer.{Answer}
use Rattle.quic_machine.specs.declared.run.View.{View}
use Rattle.quic_machine.specs.Machine.{World, Policies, IsStep, Follows, end_at, control_at, fails}
use Rattle.quic_headline.specs.Runs.{Told, same_side, state_in, told_by, told_at}
use Rattle.quic_headline.proofs.Places.Moments.{told_none}

-- ---- one step

-- One of two ends and its controller are in both worlds the same.
pub record AreSame (side : Side) (w next : World) : Type 0 where
  pub end : end_at side next ≡ end_at side w
  pub control : control_at side next ≡ control_at side w

-- a step of the other end leaves it as it is
pub step_leaves : (side : Side) (k : Policies) (w next : World) (event : RunEvent) (a : Answer) → same_side event.side side ≡ false → IsStep k w event a next → AreSame side w next
step_leaves side k w next event a other s = go side event.side event.call other s
  where
    go : (side by : Side) (call : Call) → same_side by side ≡ false → IsStep k w (record { side = by; call = call }) a next → AreSame side w next
    go Client Client call other s = cc
    go Server Server call other s = cc
    go Client Server call other s = record { end = ap (λ (v : World). v.client) s.others; control = ap (λ (v : World). v.client_control) s.others }
    go Server Client call other s = record { end = ap (λ (v : World). v.server) s.others; control = ap (λ (v : World). v.server_control) s.others }

-- the same side
pub side_is : (a b : Side) → same_side a b ≡ true → a ≡ b
side_is Client Client is = refl
side_is Server Server is = refl
side_is Client Server is = cc
side_is Server Client is = cc

-- ---- while only the other end is called

no_step : (side : Side) (w end : World) → end ≡ w → AreSame side w end
no_step side w end is = record { end = ap (λ (v : World). end_at side v) is; control = ap (λ (v : World). control_at side v) is }

both_steps : (side : Side) (w next end : World) → AreSame side w next → AreSame side next end → AreSame side w end
both_steps side w next end a b = record { end = b.end ∙ a.end; control = b.control ∙ a.control }

-- nothing is told at it, and it stays
pub left_alone : (i : ℕ) (side : Side) (state : State) (k : Policies) (w end : World) (events : List RunEvent) (answers : List Answer) (views : List View) → Follows k w (take i events) (take i answers) (take i views) end → told_at side state events (take i answers) views ≡ [] → AreSame side w end
left_alone zero side state k w end events answers views f none = no_step side w end f
left_alone (suc i) side state k w end [] [] [] f none = no_step side w end f
left_alone (suc i) side state k w end (e ∷ events) [] [] f none = no_step side w end f
left_alone (suc i) side state k w end [] [] (v ∷ views) f none = absurd f
left_alone (suc i) side state k w end (e ∷ events) [] (v ∷ views) f none = absurd f
left_alone (suc i) side state k w end [] (a ∷ answers) views f none = absurd f
left_alone (suc i) side state k w end (e ∷ events) (a ∷ answers) [] f none = absurd f
left_alone (suc i) side state k w end (e ∷ events) (a ∷ answers) (v ∷ views) f none = go (λ quiet. left_alone i side (state_in v side) k f.0 end events answers views f.3 quiet) (same_side e.side side) refl none
  where
    rest : List Told
    rest = told_at side (state_in v side) events (take i answers) views

    go : (rest ≡ [] → AreSame side f.0 end) → (b : Bool) → same_side e.side side ≡ b → (if b then record { call = e.call; answer = a; state = state } ∷ [] else []) ++ rest ≡ [] → AreSame side w end
    go later true is none = cc
    go later false is none = both_steps side w f.0 end (step_leaves side k w f.0 e a is f.1) (later none)

-- ---- the last call at an end

-- The last call at one of the ends of a run, by which it came to some ends: where it stands, what
-- it was answered, the ends behind it, and that nothing was told there since.
pub record LastCall (i : ℕ) (side : Side) (state : State) (k : Policies) (w end : World) (events : List RunEvent) (answers : List Answer) (views : List View) (t : Told) : Type 0 where
  pub place : ℕ
  pub below : place < i
  pub event : slice_get events place ≡ Some (record { side = side; call = t.call })
  pub answer : slice_get answers place ≡ Some t.answer
  pub world : World
  pub leads : Follows k w (take (suc place) events) (take (suc place) answers) (take (suc place) views) world
  pub view : View
  pub shown : slice_get views place ≡ Some view
  pub same : AreSame side world end
  pub told : told_at side state events (take i answers) views ≡ told_at side state events (take (suc place) answers) views

-- a list with one more has one
not_empty : {X : Type 0} (front : List X) (x : X) → ◌≡◌ {A = List X} [] (front ++ x ∷ []) → ⊥
not_empty [] x is = cc
not_empty (y ∷ front) x is = cc

-- nor has one with an element no more
no_more : {X : Type 0} (x : X) (xs : List X) → ◌≡◌ {A = List X} (x ∷ xs) [] → ⊥
no_more x xs is = cc

-- where two lists are the same, their first elements are, and what follows
head_same : {X : Type 0} (x y : X) (xs ys : List X) → x ∷ xs ≡ y ∷ ys → x ≡ y
head_same x y xs ys is = cc

tail_same : {X : Type 0} (x y : X) (xs ys : List X) → x ∷ xs ≡ y ∷ ys → xs ≡ ys
tail_same x y xs ys is = cc

module _ (i : ℕ) (side : Side) (state : State) (k : Policies) (w end : World) (e : RunEvent) (events : List RunEvent) (a : Answer) (answers : List Answer) (v : View) (views : List View) (t : Told)
    (f : Follows k w (e ∷ take i events) (a ∷ take i answers) (v ∷ take i views) end) where
  -- what the first event tells, if it is one of this end, and what those that follow tell
  abbrev first : Told
  first = record { call = e.call; answer = a; state = state }

  abbrev rest : List Told
  rest = told_at side (state_in v side) events (take i answers) views

  -- the last call among those that follow, and among all
  abbrev Later : Type 0
  Later = LastCall i side (state_in v side) k f.0 end events answers views t

  abbrev Found : Type 0
  Found = LastCall (suc i) side state k w end (e ∷ events) (a ∷ answers) (v ∷ views) t

  later : Later → Found
  later found = record {
    place = suc found.place;
    below = (let below = found.below in omega arith);
    event = found.event;
    answer = found.answer;
    world = found.world;
    leads = (f.0, f.1, f.2, found.leads);
    view = found.view;
    shown = found.shown;
    same = found.same;
    told = ap (λ (ts : List Told). told_by side state e a ++ ts) found.told;
  }

  -- it is the first
  here : same_side e.side side ≡ true → first ≡ t → rest ≡ [] → Found
  here own one none = record {
    place = zero;
    below = omega arith;
    event = ap (λ (s : Side). Some (record { side = s; call = e.call })) (side_is e.side side own) ∙ ap (λ (u : Told). Some (record { side = side; call = u.call })) one;
    answer = ap (λ (u : Told). Some u.answer) one;
    world = f.0;
    leads = (f.0, f.1, f.2, refl);
    view = v;
    shown = refl;
    same = left_alone i side (state_in v side) k f.0 end events answers views f.3 none;
    told = ap (λ (ts : List Told). told_by side state e a ++ ts) (none ∙ sym (told_none side events views (state_in v side)));
  }

  by_rest : ((others : List Told) → rest ≡ others ++ t ∷ [] → Later) → same_side e.side side ≡ true → (front ts : List Told) → rest ≡ ts → first ∷ ts ≡ front ++ t ∷ [] → Found
  by_rest on own [] [] none is = here own (head_same first t [] [] is) none
  by_rest on own (u ∷ front) [] none is = absurd (not_empty front t (tail_same first u [] (front ++ t ∷ []) is))
  by_rest on own [] (u ∷ us) some is = absurd (no_more u us (tail_same first t (u ∷ us) [] is))
  by_rest on own (x ∷ front) (u ∷ us) some is = later (on front (some ∙ tail_same first x (u ∷ us) (front ++ t ∷ []) is))

  -- by whose event the first is
  by_side : ((others : List Told) → rest ≡ others ++ t ∷ [] → Later) → (front : List Told) (b : Bool) → same_side e.side side ≡ b → (if b then first ∷ [] else []) ++ rest ≡ front ++ t ∷ [] → Found
  by_side on front true own is = by_rest on own front rest refl is
  by_side on front false other is = later (on front is)

pub last_call : (i : ℕ) (side : Side) (state : State) (k : Policies) (w end : World) (events : List RunEvent) (answers : List Answer) (views : List View) (front : List Told) (t : Told) → Follows k w (take i events) (take i answers) (take i views) end
    → told_at side state events (take i answers) views ≡ front ++ t ∷ [] → LastCall i side state k w end events answers views t
last_call zero side state k w end events answers views front t f is = absurd (not_empty front t (sym (told_none side events views state) ∙ is))
last_call (suc i) side state k w end [] [] [] front t f is = absurd (not_empty front t is)
last_call (suc i) side state k w end (e ∷ events) [] [] front t f is = absurd (not_empty front t is)
last_call (suc i) side state k w end [] [] (v ∷ views) front t f is = absurd f
last_call (suc i) side state k w end (e ∷ events) [] (v ∷ views) front t f is = absurd f
last_call (suc i) side state k w end [] (a ∷ answers) views front t f is = absurd f
last_call (suc i) side state k w end (e ∷ events) (a ∷ answers) [] front t f is = absurd f
last_call (suc i) side state k w end (e ∷ events) (a ∷ answers) (v ∷ views) front t f is =
    by_side i side state k w end e events a answers v views t f (λ others there. last_call i side (state_in v side) k f.0 end events answers views others t f.3 there) front (same_side e.side side) refl is

-- ---- answers that were served

-- where the first so many were, fewer of them were
pub served_sooner : (i j : ℕ) (answers : List Answer) → j ≤ i → list_any fails (take i answers) ≡ false → list_any fails (take j answers) ≡ false
served_sooner i zero answers less served = refl
served_sooner zero (suc j) answers less served = absurd (omega arith)
served_sooner (suc i) (suc j) [] less served = refl
served_sooner (suc i) (suc j) (a ∷ answers) less served =
    let both = or_parts (fails a) (list_any fails (take i answers)) served in
    or_from (fails a) (list_any fails (take j answers)) both.0 (served_sooner i j answers (omega arith) both.1)
