-- What every step keeps holds at each place of a run.
use Rattle.std.proofs.Common.{◌≡◌, ℕ, zero, suc, List, [], ◌∷◌, ◌++◌, take, drop, Bool, true, false, ◌||◌, Some, refl, sym, ap, ◌∙◌, subst}
use Rattle.std.specs.Prelude.{slice_get}
use Rattle.std.specs.List.{list_any}
use Rattle.std.proofs.lemmas.List.{append_assoc, append-nil}
use Rattle.quic_wire_core.specs.declared.stream_id.Side.{Side}
use Rattle.quic_wire_core.specs.declared.stream_id.Side.TheVariants.{Client, Server}
use Rattle.quic_machine.specs.declared.answers.State.{State}
use Rattle.quic_machine.specs.declared.run.RunEvent.{RunEvent}
use Rattle.quic_machine.specs.declared.run.Answer.{Answer}
use Rattle.quic_machine.specs.declared.run.EndView.{EndView}
use Rattle.quic_machine.specs.declared.run.View.{View}
use Rattle.quic_machine.specs.Machine.{World, Policies, IsStep, end_at, end_met, control_at, heard_at, changed, gives, policy_at, fails, Follows, view_of}
use Rattle.quic_headline.specs.Runs.{Told, told_by, told_at, state_in, state_behind}
use Rattle.quic_headline.specs.Polls.{end_in, seen_of, seen_behind}

-- what both ends gave, the first of all that they give
pub record Grown (w end : World) : Type 0 where
  pub client : (rest : List (List ℕ)) × (w.from_client ++ rest ≡ end.from_client)
  pub server : (rest : List (List ℕ)) × (w.from_server ++ rest ≡ end.from_server)

grown_same : (w end : World) → end ≡ w → Grown w end
grown_same w end is = record { client = ([], append-nil w.from_client ∙ sym (ap (λ t. t.from_client) is)); server = ([], append-nil w.from_server ∙ sym (ap (λ t. t.from_server) is)) }

grown_by : (side : Side) (w next end : World) (ds : List (List ℕ)) → next ≡ changed side w (end_at side next) ds (control_at side next) (heard_at side next) → Grown next end → Grown w end
grown_by Client w next end ds is g = record {
  client = (ds ++ g.client.0, sym (append_assoc w.from_client ds g.client.0) ∙ ap (λ t. t ++ g.client.0) (sym (ap (λ t. t.from_client) is)) ∙ g.client.1);
  server = (g.server.0, ap (λ t. t ++ g.server.0) (sym (ap (λ t. t.from_server) is)) ∙ g.server.1);
}
grown_by Server w next end ds is g = record {
  client = (g.client.0, ap (λ t. t ++ g.client.0) (sym (ap (λ t. t.from_client) is)) ∙ g.client.1);
  server = (ds ++ g.server.0, sym (append_assoc w.from_server ds g.server.0) ∙ ap (λ t. t ++ g.server.0) (sym (ap (λ t. t.from_server) is)) ∙ g.server.1);
}

-- what was given before stays given
pub grown : (k : Policies) (w : World) (events : List RunEvent) (answers : List Answer) (views : List View) (end : World) → Follows k w events answers views end → Grown w end
grown k w [] [] [] end f = grown_same w end f
grown k w (e ∷ events) [] [] end f = grown_same w end f
grown k w [] [] (v ∷ views) end f = absurd f
grown k w (e ∷ events) [] (v ∷ views) end f = absurd f
grown k w [] (a ∷ answers) views end f = absurd f
grown k w (e ∷ events) (a ∷ answers) [] end f = absurd f
grown k w (e ∷ events) (a ∷ answers) (v ∷ views) end f =
    grown_by e.side w f.0 end (gives (policy_at e.side k) (end_met w e) e.call a) f.1.others (grown k f.0 events answers views end f.3)

served_first : (a b : Bool) → (a || b) ≡ false → a ≡ false
served_first true b q = q
served_first false b q = refl

served_rest : (a b : Bool) → (a || b) ≡ false → b ≡ false
served_rest true b q = cc
served_rest false b q = q

pub told_none : (side : Side) (events : List RunEvent) (views : List View) (state : _) → told_at side state events [] views ≡ []
told_none side [] views state = refl
told_none side (e ∷ events) views state = refl

-- the last view of what leads to some ends shows them
pub last_view : (k : Policies) (i : ℕ) (w end : World) (events : List RunEvent) (answers : List Answer) (views : List View) (v : View) → Follows k w (take (suc i) events) (take (suc i) answers) (take (suc i) views) end → slice_get views i ≡ Some v → v ≡ view_of end
last_view k i w end events answers [] v f there = cc
last_view k i w end [] [] (u ∷ views) v f there = absurd f
last_view k i w end (e ∷ events) [] (u ∷ views) v f there = absurd f
last_view k i w end [] (a ∷ answers) (u ∷ views) v f there = absurd f
last_view k zero w end (e ∷ events) (a ∷ answers) (u ∷ views) v f there = let same : u ≡ v = cc in sym same ∙ f.2 ∙ ap view_of (sym f.3)
last_view k (suc i) w end (e ∷ events) (a ∷ answers) (u ∷ views) v f there = last_view k i f.0 end events answers views v f.3 there

-- what a view shows is the state
pub state_shown : (side : Side) (w : World) → state_in (view_of w) side ≡ (end_at side w).closing.state
state_shown Client w = refl
state_shown Server w = refl

-- and what is seen of an end
seen_shown : (side : Side) (w : World) → end_in (view_of w) side ≡ seen_of side w
seen_shown Client w = refl
seen_shown Server w = refl

-- what the views show of an end at a place is what is to be seen of it there
pub last_seen : (side : Side) (k : Policies) (i : ℕ) (w end : World) (events : List RunEvent) (answers : List Answer) (views : List View) → Follows k w (take i events) (take i answers) (take i views) end → seen_behind side (seen_of side w) i views ≡ seen_of side end
last_seen side k zero w end events answers views f = ap (λ (v : World). seen_of side v) (sym f)
last_seen side k (suc i) w end [] [] [] f = ap (λ (v : World). seen_of side v) (sym f)
last_seen side k (suc i) w end (e ∷ events) [] [] f = ap (λ (v : World). seen_of side v) (sym f)
last_seen side k (suc i) w end [] [] (v ∷ views) f = absurd f
last_seen side k (suc i) w end (e ∷ events) [] (v ∷ views) f = absurd f
last_seen side k (suc i) w end [] (a ∷ answers) views f = absurd f
last_seen side k (suc i) w end (e ∷ events) (a ∷ answers) [] f = absurd f
last_seen side k (suc i) w end (e ∷ events) (a ∷ answers) (v ∷ views) f =
    ap (λ (s : EndView). seen_behind side s i views) (ap (λ (u : View). end_in u side) f.2 ∙ seen_shown side f.0)
    ∙ last_seen side k i f.0 end events answers views f.3

-- what one more event tells, and what is told behind it, as the view behind it shows the state
told_further : (side : Side) (state : State) (told : List Told) (event : RunEvent) (a : Answer) (events : List RunEvent) (answers : List Answer) (v : View) (views : List View) (next : World) → v ≡ view_of next
    → told ++ told_at side state (event ∷ events) (a ∷ answers) (v ∷ views) ≡ (told ++ told_by side state event a) ++ told_at side (end_at side next).closing.state events answers views
told_further side state told event a events answers v views next is =
    sym (append_assoc told (told_by side state event a) (told_at side (state_in v side) events answers views))
    ∙ ap (λ (s : State). (told ++ told_by side state event a) ++ told_at side s events answers views) (ap (λ (u : View). state_in u side) is ∙ state_shown side next)

-- E holds of each event and its answer, with what was told at both ends before it; P holds at each
-- place.
module _ (k : Policies) (end : World) (E : RunEvent → Answer → List Told → List Told → Type 0) (P : World → List Told → List Told → Type 0)
    (step : (w next : World) (event : RunEvent) (a : Answer) (client server : List Told) → P w client server → E event a client server → IsStep k w event a next → fails a ≡ false → Grown w end → Grown next end
    → P next (client ++ told_by Client w.client.closing.state event a) (server ++ told_by Server w.server.closing.state event a)) where
  -- so it is of the events from a place on
  abbrev pub FromHere : World → List RunEvent → List Answer → List View → List Told → List Told → Type 0
  FromHere w events answers views client server = (j : ℕ) (event : RunEvent) (a : Answer) → slice_get events j ≡ Some event → slice_get answers j ≡ Some a
      → E event a (client ++ told_at Client w.client.closing.state events (take j answers) views) (server ++ told_at Server w.server.closing.state events (take j answers) views)

  -- the ends at a place of a run that begins here, how the run comes there and goes on from there,
  -- and the states that the views show
  pub record Moment (first : World) (i : ℕ) (events : List RunEvent) (answers : List Answer) (views : List View) (client server : List Told) : Type 0 where
    pub world : World
    pub holds : P world client server
    pub came : Follows k first (take i events) (take i answers) (take i views) world
    pub goes_on : Follows k world (drop i events) (drop i answers) (drop i views) end
    pub state : (side : Side) → (end_at side world).closing.state ≡ state_behind side (end_at side first).closing.state i views

  -- the first event
  first_of : (w : World) (event : RunEvent) (a : Answer) (events : List RunEvent) (answers : List Answer) (views : List View) (client server : List Told) → FromHere w (event ∷ events) (a ∷ answers) views client server → E event a client server
  first_of w event a events answers views client server each =
      let at : E event a (client ++ []) (server ++ []) =
      rw (told_none Client (event ∷ events) views w.client.closing.state, told_none Server (event ∷ events) views w.server.closing.state) at (each zero event a refl refl) in
      subst (λ (ts : List Told). E event a ts server) (append-nil client) (subst (λ (ts : List Told). E event a (client ++ []) ts) (append-nil server) at)

  -- the others
  rest_of : (w next : World) (event : RunEvent) (a : Answer) (v : View) (events : List RunEvent) (answers : List Answer) (views : List View) (client server : List Told) → v ≡ view_of next → FromHere w (event ∷ events) (a ∷ answers) (v ∷ views) client server
      → FromHere next events answers views (client ++ told_by Client w.client.closing.state event a) (server ++ told_by Server w.server.closing.state event a)
  rest_of w next event a v events answers views client server is each j e b at_event at_answer =
      subst (λ (ts : List Told). E e b ts ((server ++ told_by Server w.server.closing.state event a) ++ told_at Server next.server.closing.state events (take j answers) views)) (told_further Client w.client.closing.state client event a events (take j answers) v views next is)
      (subst (λ (ts : List Told). E e b (client ++ told_at Client w.client.closing.state (event ∷ events) (a ∷ take j answers) (v ∷ views)) ts) (told_further Server w.server.closing.state server event a events (take j answers) v views next is)
      (each (suc j) e b at_event at_answer))

  pub moment : (i : ℕ) (w : World) (events : List RunEvent) (answers : List Answer) (views : List View) (client server : List Told) → P w client server → FromHere w events answers views client server → Follows k w events answers views end → list_any fails (take i answers) ≡ false
      → Moment w i events answers views (client ++ told_at Client w.client.closing.state events (take i answers) views) (server ++ told_at Server w.server.closing.state events (take i answers) views)
  moment zero w events answers views client server h each f q = record {
    world = w;
    holds = rw (told_none Client events views w.client.closing.state, told_none Server events views w.server.closing.state, append-nil client, append-nil server) h;
    came = refl;
    goes_on = f;
    state = λ side. refl;
  }
  moment (suc i) w [] [] [] client server h each f q = record { world = w; holds = rw (append-nil client, append-nil server) h; came = refl; goes_on = f; state = λ side. refl }
  moment (suc i) w (e ∷ events) [] [] client server h each f q = record { world = w; holds = rw (append-nil client, append-nil server) h; came = refl; goes_on = f; state = λ side. refl }
  moment (suc i) w [] [] (v ∷ views) client server h each f q = absurd f
  moment (suc i) w (e ∷ events) [] (v ∷ views) client server h each f q = absurd f
  moment (suc i) w [] (a ∷ answers) views client server h each f q = absurd f
  moment (suc i) w (e ∷ events) (a ∷ answers) [] client server h each f q = absurd f
  moment (suc i) w (e ∷ events) (a ∷ answers) (v ∷ views) client server h each f q =
      let next = f.0 in
      let left = grown k next events answers views end f.3 in
      let behind = grown_by e.side w next end (gives (policy_at e.side k) (end_met w e) e.call a) f.1.others left in
      let holds = step w next e a client server h (first_of w e a events answers (v ∷ views) client server each) f.1 (served_first (fails a) _ q) behind left in
      let m = moment i next events answers views _ _ holds (rest_of w next e a v events answers views client server f.2 each) f.3 (served_rest (fails a) _ q) in
      record {
        world = m.world;
        holds = rw (told_further Client w.client.closing.state client e a events (take i answers) v views next f.2, told_further Server w.server.closing.state server e a events (take i answers) v views next f.2) m.holds;
        came = (next, f.1, f.2, m.came);
        goes_on = m.goes_on;
        state = λ side. m.state side ∙ ap (λ (s : State). state_behind side s i views) (sym (ap (λ (u : View). state_in u side) f.2 ∙ state_shown side next));
      }
