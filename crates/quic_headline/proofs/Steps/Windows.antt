-- The window that a view shows comes of what the calls up to there told the controller.
use Rattle.std.proofs.Common.{◌≡◌, ℕ, zero, suc, List, [], ◌∷◌, ◌++◌, take, Bool, false, refl, sym, ap, ◌∙◌, subst}
use Rattle.std.specs.List.{list_any}
use Rattle.std.proofs.lemmas.Bool.{or_parts}
use Rattle.std.proofs.lemmas.List.{append_assoc, append-nil}
use Rattle.quic_wire_core.specs.declared.stream_id.Side.{Side}
use Rattle.quic_wire_core.specs.declared.stream_id.Side.TheVariants.{Client, Server}
use Rattle.quic_wire_core.specs.StreamId.{other_side}
use Rattle.quic_congestion.specs.Congestion.{Told}
use Rattle.quic_machine.specs.declared.run.RunEvent.{RunEvent}
use Rattle.quic_machine.specs.declared.run.Call.{Call}
use Rattle.quic_machine.specs.declared.run.Answer.{Answer}
use Rattle.quic_machine.specs.declared.run.View.{View}
use Rattle.quic_machine.specs.Control.{Control, after_told}
use Rattle.quic_machine.specs.Machine.{World, Policies, IsTold, IsStep, end_at, end_met, control_at, given_by, policy_at, tells, fails, Follows, view_of, heard_at}
use Rattle.quic_headline.specs.Runs.{Run}
use Rattle.quic_headline.specs.Headline.{IsRun}
use Rattle.quic_headline.specs.Polls.{window_in, told_by_step, WasTold, WindowIsOfHistory}
use Rattle.quic_headline.proofs.Places.Moments.{last_view}

-- ---- one step

-- the controller of one end shows at the second of two ends of a run what it shows at the first
-- once it was told this
abbrev pub ShowsAfter : Side → World → World → List Told → Type 0
ShowsAfter side w end told = (more : List Told) → control_at side end more ≡ control_at side w (told ++ more)

-- the controller of the end that calls is told what the call tells
told_control : (k : Policies) (w next : World) (event : RunEvent) (a : Answer) → fails a ≡ false → IsStep k w event a next
    → control_at event.side next ≡ after_told (control_at event.side w) (tells (policy_at event.side k) (end_met w event) (given_by (other_side event.side) w) event.call)
told_control k w next event a served s =
    subst (λ (b : Bool). IsTold b (policy_at event.side k) (control_at event.side w) (heard_at event.side w) (end_at event.side w) (given_by (other_side event.side) w) event.call (control_at event.side next)) served s.control

-- and that of the other end nothing
pub step_shows : (side : Side) (k : Policies) (w next : World) (event : RunEvent) (a : Answer) → fails a ≡ false → IsStep k w event a next → ShowsAfter side w next (told_by_step side k w event)
step_shows side k w next event a served s more = go side event.side event.call s
  where
    go : (side by : Side) (call : Call) → IsStep k w (record { side = by; call = call }) a next → control_at side next more ≡ control_at side w (told_by_step side k w (record { side = by; call = call }) ++ more)
    go Client Client call s = ap (λ (c : Control). c more) (told_control k w next (record { side = Client; call = call }) a served s)
    go Server Server call s = ap (λ (c : Control). c more) (told_control k w next (record { side = Server; call = call }) a served s)
    go Client Server call s = ap (λ (v : World). v.client_control more) s.others
    go Server Client call s = ap (λ (v : World). v.server_control more) s.others

-- ---- a run

-- What a controller was told by a run, and shows then.
pub record History (side : Side) (k : Policies) (w : World) (events : List RunEvent) (answers : List Answer) (end : World) : Type 0 where
  pub told : List Told
  pub was : WasTold side k w events answers end told
  pub shows : ShowsAfter side w end told

-- nothing, where nothing was answered
no_history : (side : Side) (k : Policies) (w : World) (events : List RunEvent) (end : World) → end ≡ w → History side k w events [] end
no_history side k w events end is = record { told = []; was = (is, refl); shows = λ more. ap (λ (v : World). control_at side v more) is }

-- so it is of any run whose answers were served
pub history : (side : Side) (k : Policies) (w : World) (events : List RunEvent) (answers : List Answer) (views : List View) (end : World) → Follows k w events answers views end → list_any fails answers ≡ false → History side k w events answers end
history side k w [] [] [] end f served = no_history side k w [] end f
history side k w (e ∷ events) [] [] end f served = no_history side k w (e ∷ events) end f
history side k w [] [] (v ∷ views) end f served = absurd f
history side k w (e ∷ events) [] (v ∷ views) end f served = absurd f
history side k w [] (a ∷ answers) views end f served = absurd f
history side k w (e ∷ events) (a ∷ answers) [] end f served = absurd f
history side k w (e ∷ events) (a ∷ answers) (v ∷ views) end f served =
    let both = or_parts (fails a) (list_any fails answers) served in
    let h = history side k f.0 events answers views end f.3 both.1 in
    record {
      told = told_by_step side k w e ++ h.told;
      was = (f.0, h.told, f.1, refl, h.was);
      shows = λ more.
          h.shows more
          ∙ step_shows side k w f.0 e a both.0 f.1 (h.told ++ more)
          ∙ ap (λ (ts : List Told). control_at side w ts) (sym (append_assoc (told_by_step side k w e) h.told more));
    }

-- the first so many events of a run lead to some ends
pub first_lead : (i : ℕ) (k : Policies) (w : World) (events : List RunEvent) (answers : List Answer) (views : List View) (end : World) → Follows k w events answers views end → (mid : World) × Follows k w (take i events) (take i answers) (take i views) mid
first_lead zero k w events answers views end f = (w, refl)
first_lead (suc i) k w [] [] [] end f = (w, refl)
first_lead (suc i) k w (e ∷ events) [] [] end f = (w, refl)
first_lead (suc i) k w [] [] (v ∷ views) end f = absurd f
first_lead (suc i) k w (e ∷ events) [] (v ∷ views) end f = absurd f
first_lead (suc i) k w [] (a ∷ answers) views end f = absurd f
first_lead (suc i) k w (e ∷ events) (a ∷ answers) [] end f = absurd f
first_lead (suc i) k w (e ∷ events) (a ∷ answers) (v ∷ views) end f = let rest = first_lead i k f.0 events answers views end f.3 in (rest.0, (f.0, f.1, f.2, rest.1))

-- ---- the clause

-- a view shows the windows of both ends
window_there : (side : Side) (w : World) → window_in (view_of w) side ≡ control_at side w []
window_there Client w = refl
window_there Server w = refl

-- the window that a view shows is that which the controller shows once it was told what the calls
-- up to there tell
pub window_is_of_history : (r : Run) (end : World) → IsRun r end → WindowIsOfHistory r
window_is_of_history r end run side i v served there =
    let lead = first_lead (suc i) r.keys r.start r.events r.answers r.views end run.follows in
    let h = history side r.keys r.start (take (suc i) r.events) (take (suc i) r.answers) (take (suc i) r.views) lead.0 lead.1 served in
    let seen : v ≡ view_of lead.0 = last_view r.keys i r.start lead.0 r.events r.answers r.views v lead.1 there in (
      lead.0,
      h.told,
      h.was,
      ap (λ (u : View). window_in u side) seen ∙ window_there side lead.0 ∙ h.shows [] ∙ ap (λ (ts : List Told). control_at side r.start ts) (append-nil h.told),
    )
