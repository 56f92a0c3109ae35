-- Where memory served, the answers of a run tell all that it leaves; and how many answers and views
-- there are.
use Rattle.std.proofs.Common.{◌≡◌, ℕ, ◌≤◌, suc, List, [], ◌∷◌, length, Bool, true, false, refl, sym, ap, ◌∙◌, subst, arith}
use Rattle.std.specs.Prelude.{◌||◌}
use Rattle.std.specs.List.{list_any}
use Rattle.quic_wire_core.specs.StreamId.{other_side}
use Rattle.quic_machine.specs.declared.run.RunEvent.{RunEvent}
use Rattle.quic_machine.specs.declared.run.Answer.{Answer}
use Rattle.quic_machine.specs.declared.run.View.{View}
use Rattle.quic_machine.specs.End.{End}
use Rattle.quic_machine.specs.Control.{Control, after_told}
use Rattle.quic_machine.specs.Heard.{Heard}
use Rattle.quic_machine.specs.Machine.{IsLeft, IsStep, Follows, World, Policies, policy_at, end_at, given_by, control_at, heard_at, changed, IsTold, IsHeard, heard_by, tells, end_left, end_met, gives, fails, view_of}

-- the end that a call leaves
left : (k : Policies) (w : World) (event : RunEvent) (a : Answer) (x : World) → fails a ≡ false → IsStep k w event a x
    → end_at event.side x ≡ end_left (policy_at event.side k) (control_at event.side w) (heard_at event.side w) (end_at event.side w) (given_by (other_side event.side) w) event.call a
left k w event a x served s =
    subst (λ (b : Bool). IsLeft b (policy_at event.side k) (control_at event.side w) (heard_at event.side w) (end_at event.side w) (given_by (other_side event.side) w) event.call a (end_at event.side x)) served s.end

-- the controller that it leaves
left_control : (k : Policies) (w : World) (event : RunEvent) (a : Answer) (x : World) → fails a ≡ false → IsStep k w event a x
    → control_at event.side x ≡ after_told (control_at event.side w) (tells (policy_at event.side k) (end_met w event) (given_by (other_side event.side) w) event.call)
left_control k w event a x served s =
    subst (λ (b : Bool). IsTold b (policy_at event.side k) (control_at event.side w) (heard_at event.side w) (end_at event.side w) (given_by (other_side event.side) w) event.call (control_at event.side x)) served s.control

-- what it leaves counted
left_heard : (k : Policies) (w : World) (event : RunEvent) (a : Answer) (x : World) → fails a ≡ false → IsStep k w event a x → heard_at event.side x ≡ heard_by (end_at event.side w) (end_at event.side x) (given_by (other_side event.side) w) event.call a (heard_at event.side w)
left_heard k w event a x served s = subst (λ (b : Bool). IsHeard b (end_at event.side w) (end_at event.side x) (given_by (other_side event.side) w) event.call a (heard_at event.side w) (heard_at event.side x)) served s.heard

-- a step leaves one world
pub one_world : (k : Policies) (w : World) (event : RunEvent) (a : Answer) (x y : World) → fails a ≡ false → IsStep k w event a x → IsStep k w event a y → x ≡ y
one_world k w event a x y served s t =
    s.others
    ∙ ap (λ (e : End). changed event.side w e ds (control_at event.side x) (heard_at event.side x)) one_end
    ∙ ap (λ (control : Control). changed event.side w (end_at event.side y) ds control (heard_at event.side x)) (left_control k w event a x served s ∙ sym (left_control k w event a y served t))
    ∙ ap (λ (heard : Heard). changed event.side w (end_at event.side y) ds (control_at event.side y) heard)
    (left_heard k w event a x served s
    ∙ ap (λ (e : End). heard_by (end_at event.side w) e (given_by (other_side event.side) w) event.call a (heard_at event.side w)) one_end
    ∙ sym (left_heard k w event a y served t))
    ∙ sym t.others
  where
    one_end : end_at event.side x ≡ end_at event.side y
    one_end = left k w event a x served s ∙ sym (left k w event a y served t)

    ds : List (List ℕ)
    ds = gives (policy_at event.side k) (end_met w event) event.call a

neither : (b c : Bool) → b || c ≡ false → (b ≡ false) × (c ≡ false)
neither true c e = absurd cc
neither false c e = (refl, e)

-- the views and the world that a run leaves are those of another with its answers
abbrev Same : List View → List View → World → World → Type 0
Same vs us x y = (vs ≡ us) × (x ≡ y)

-- one more view of both
more : (v u : View) (vs us : List View) (x y : World) → v ≡ u → Same vs us x y → Same (v ∷ vs) (u ∷ us) x y
more v u vs us x y e same = (let views = same.0 in cc, same.1)

pub one_run : (k : Policies) (told : List Answer) (w : World) (events : List RunEvent) (vs us : List View) (x y : World) → list_any fails told ≡ false → Follows k w events told vs x → Follows k w events told us y → Same vs us x y
one_run k [] w [] [] [] x y served f g = (refl, f ∙ sym g)
one_run k [] w (event ∷ events) [] [] x y served f g = (refl, f ∙ sym g)
one_run k [] w [] (v ∷ vs) us x y served f g = absurd f
one_run k [] w (event ∷ events) (v ∷ vs) us x y served f g = absurd f
one_run k [] w [] [] (u ∷ us) x y served f g = absurd g
one_run k [] w (event ∷ events) [] (u ∷ us) x y served f g = absurd g
one_run k (a ∷ told) w [] vs us x y served f g = absurd f
one_run k (a ∷ told) w (event ∷ events) [] us x y served f g = absurd f
one_run k (a ∷ told) w (event ∷ events) (v ∷ vs) [] x y served f g = absurd g
one_run k (a ∷ told) w (event ∷ events) (v ∷ vs) (u ∷ us) x y served f g =
    let both = neither (fails a) (list_any fails told) served in
    let same : g.0 ≡ f.0 = one_world k w event a g.0 f.0 both.0 g.1 f.1 in
    let seen : v ≡ u = f.2 ∙ ap view_of (sym same) ∙ sym g.2 in
    more v u vs us x y seen (one_run k told f.0 events vs us x y both.1 f.3 (subst (λ (m : World). Follows k m events told us y) same g.3))

-- ---- how many answers and views there are

-- one view for each answer
pub as_many_views : (k : Policies) (w end : World) (events : List RunEvent) (told : List Answer) (views : List View) → Follows k w events told views end → length views ≡ length told
as_many_views k w end [] [] [] f = refl
as_many_views k w end (event ∷ events) [] [] f = refl
as_many_views k w end [] [] (v ∷ views) f = absurd f
as_many_views k w end (event ∷ events) [] (v ∷ views) f = absurd f
as_many_views k w end [] (a ∷ told) views f = absurd f
as_many_views k w end (event ∷ events) (a ∷ told) [] f = absurd f
as_many_views k w end (event ∷ events) (a ∷ told) (v ∷ views) f = ap suc (as_many_views k f.0 end events told views f.3)

-- no answer without an event
pub no_more_answers : (k : Policies) (w end : World) (events : List RunEvent) (told : List Answer) (views : List View) → Follows k w events told views end → length told ≤ length events
no_more_answers k w end events [] views f = omega arith
no_more_answers k w end [] (a ∷ told) views f = absurd f
no_more_answers k w end (event ∷ events) (a ∷ told) [] f = absurd f
no_more_answers k w end (event ∷ events) (a ∷ told) (v ∷ views) f = let fewer = no_more_answers k f.0 end events told views f.3 in omega arith
