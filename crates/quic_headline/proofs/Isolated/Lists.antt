-- Less injections, and deliveries of what by the lists doesn't open or came before, a run of new
-- ends is a run again at each place up to which memory served.
use Rattle.std.proofs.Common.{◌≡◌, ℕ, zero, suc, Bool, true, false, ◌||◌, List, [], ◌∷◌, ◌++◌, take, drop, Option, Some, None, inl, inr, refl, sym, ap, ◌∙◌, subst}
use Rattle.std.specs.Prelude.{slice_get, not}
use Rattle.std.specs.List.{list_any}
use Rattle.std.proofs.lemmas.Bool.{or_parts}
use Rattle.std.proofs.lemmas.List.{append-nil}
use Rattle.quic_wire_core.specs.declared.stream_id.Side.{Side}
use Rattle.quic_wire_core.specs.declared.stream_id.Side.TheVariants.{Client, Server}
use Rattle.quic_wire_core.specs.StreamId.{other_side}
use Rattle.quic_machine.specs.Arrival.{delivered_by}
use Rattle.quic_machine.specs.declared.answers.Received.TheVariants as receives
use Rattle.quic_machine.specs.declared.run.RunEvent.{RunEvent}
use Rattle.quic_machine.specs.declared.run.Call.{Call}
use Rattle.quic_machine.specs.declared.run.Call.TheVariants as calls
use Rattle.quic_machine.specs.declared.run.Delivery.{Delivery}
use Rattle.quic_machine.specs.declared.run.Answer.{Answer}
use Rattle.quic_machine.specs.declared.run.Answer.TheVariants as answers
use Rattle.quic_machine.specs.Policy.{Policy}
use Rattle.quic_machine.specs.End.{End}
use Rattle.quic_machine.specs.Receive.{received}
use Rattle.quic_machine.specs.Control.{Control}
use Rattle.quic_machine.specs.Start.{AreStarted}
use Rattle.quic_machine.specs.Machine.{World, IsAnswer, IsDelivered, IsLeft, IsStep, end_at, given_by, policy_at, reads_window, control_at, end_left, fails, says_last, heard_at}
use Rattle.quic_headline.specs.Runs.{Run, Told, Intake, nothing_came, given_of, handed, came_open, and_told, folded, until, told_by, AreServed}
use Rattle.quic_headline.specs.Observer.{watch, lens_of, watch_from}
use Rattle.quic_headline.specs.Headline.{IsAt, IsRun}
use Rattle.quic_headline.specs.Isolated.{is_idle, is_new, is_nothing_new, brings_nothing, listed_idle, GoesOnWithout, IsolatedByLists, FailuresStayBelow, AreValidated}
use Rattle.quic_machine.specs.Heard.{Heard}
use Rattle.quic_headline.proofs.Packets.Intakes.{folded_more}
use Rattle.quic_headline.proofs.Packets.Watching.{watched_intake}
use Rattle.quic_headline.proofs.Places.Moments.{Grown, grown, Moment, moment}
use Rattle.quic_headline.proofs.Places.Placed.{start_is, answered}
use Rattle.quic_headline.proofs.Isolated.Recalling.{Keeps, call_keeps, first_get, old_is_dropped}
use Rattle.quic_headline.proofs.Isolated.Erasing.{Chosen, erases, of_chosen}

-- ---- lists

-- what stands among the first so many stands there
taken_get : {X : Type 0} (xs : List X) (n i : ℕ) (x : X) → slice_get (take n xs) i ≡ Some x → slice_get xs i ≡ Some x
taken_get xs zero i x q = cc
taken_get [] (suc n) i x q = cc
taken_get (y ∷ xs) (suc n) zero x q = q
taken_get (y ∷ xs) (suc n) (suc i) x q = taken_get xs n i x q

-- where none of the first so many is so, neither the one at a place among them is, nor one before
-- it
none_at : {X : Type 0} (holds : X → Bool) (xs : List X) (n i : ℕ) (x : X) → list_any holds (take n xs) ≡ false → slice_get (take n xs) i ≡ Some x → (holds x ≡ false) × (list_any holds (take i xs) ≡ false)
none_at holds xs zero i x none q = cc
none_at holds [] (suc n) i x none q = cc
none_at {X} holds (y ∷ xs) (suc n) zero x none q =
    let same : y ≡ x = cc in
    (subst (λ (z : X). holds z ≡ false) same (or_parts (holds y) (list_any holds (take n xs)) none).0, refl)
none_at holds (y ∷ xs) (suc n) (suc i) x none q =
    let parts = or_parts (holds y) (list_any holds (take n xs)) none in
    let rest = none_at holds xs n i x parts.1 q in
    (rest.0, ap (λ (b : Bool). b || list_any holds (take i xs)) parts.0 ∙ rest.1)

-- ---- what both ends recall

module _ (r : Run) (end : World) (run : IsRun r end) (started : AreStarted r.start) where
  -- what came to an end with these calls
  abbrev came : Side → List Told → Intake
  came side told = folded (and_told (policy_at side r.keys) (given_of r (other_side side))) told nothing_came

  -- both ends recall what came
  abbrev BothKeep : World → List Told → List Told → Type 0
  BothKeep w client server = Keeps w.client (came Client client) × Keeps w.server (came Server server)

  first_keeps : (side : Side) → Keeps (end_at side r.start) nothing_came
  first_keeps side = subst (λ (e : End). Keeps e nothing_came) (sym (start_is r.start started side)) (record { seen = λ is. refl; further = []; noted = refl; expected = refl })

  -- the end at which a call is made
  acting : (side : Side) (control : Control) (heard : Heard) (e next : End) (theirs rest : List (List ℕ)) (call : Call) (a : Answer) (told : List Told) → fails a ≡ false → theirs ++ rest ≡ given_of r (other_side side)
      → IsAnswer (policy_at side r.keys) (reads_window control heard call e) theirs call a → IsLeft (fails a) (policy_at side r.keys) control heard e theirs call a next → Keeps e (came side told)
      → Keeps next (came side (told ++ record { call = call; answer = a; state = e.closing.state } ∷ []))
  acting side control heard e next theirs rest call a told served first is left k =
      let p : Policy = policy_at side r.keys in
      let final : List (List ℕ) = given_of r (other_side side) in
      let t : Told = record { call = call; answer = a; state = e.closing.state } in
      let same : next ≡ end_left p control heard e theirs call a = subst (λ (b : Bool). IsLeft b p control heard e theirs call a next) served left in
      subst (λ (x : End). Keeps x (came side (told ++ t ∷ []))) (sym same)
      (subst (λ (j : Intake). Keeps (end_left p control heard e theirs call a) j) (sym (folded_more (and_told p final) told t nothing_came))
      (call_keeps p control heard e theirs rest final call a (came side told) first served is k))

  -- the other end
  resting : (side : Side) (e next : End) (told : List Told) → next ≡ e → Keeps e (came side told) → Keeps next (came side (told ++ []))
  resting side e next told same k = subst (λ (x : End). Keeps x (came side (told ++ []))) (sym same) (subst (λ (ts : List Told). Keeps e (came side ts)) (sym (append-nil told)) k)

  step_keeps : (w next : World) (event : RunEvent) (a : Answer) (client server : List Told) → BothKeep w client server → Unit {0} → IsStep r.keys w event a next → fails a ≡ false → Grown w end → Grown next end
      → BothKeep next (client ++ told_by Client w.client.closing.state event a) (server ++ told_by Server w.server.closing.state event a)
  step_keeps w next event a client server both any step served before behind = go event.side event.call step
    where
      go : (side : Side) (call : Call) → IsStep r.keys w (record { side = side; call = call }) a next
          → BothKeep next (client ++ told_by Client w.client.closing.state (record { side = side; call = call }) a) (server ++ told_by Server w.server.closing.state (record { side = side; call = call }) a)
      go Client call s = (
        acting Client w.client_control w.client_heard w.client next.client w.from_server before.server.0 call a client served (before.server.1 ∙ sym run.from_server) s.answer s.end both.0,
        resting Server w.server next.server server (ap (λ (v : World). v.server) s.others) both.1,
      )
      go Server call s = (
        resting Client w.client next.client client (ap (λ (v : World). v.client) s.others) both.0,
        acting Server w.server_control w.server_heard w.server next.server w.from_client before.client.0 call a server served (before.client.1 ∙ sym run.from_client) s.answer s.end both.1,
      )

  -- a place of the run
  abbrev Place : ℕ → Type 0
  Place i = Moment r.keys end (λ event a client server. Unit {0}) BothKeep step_keeps r.start i r.events r.answers r.views (until r Client i) (until r Server i)

  place : (i : ℕ) → AreServed r i → Place i
  place i served = moment r.keys end (λ event a client server. Unit {0}) BothKeep step_keeps i r.start r.events r.answers r.views [] [] (first_keeps Client, first_keeps Server) (λ j event a at_event at_answer. tt) run.follows served

  -- what one of the ends recalls there is what the observer of the lists knows
  recalls_there : (side : Side) (i : ℕ) (at : Place i) → Keeps (end_at side at.world) (watch r side i).intake
  recalls_there side i at =
      subst (λ (j : Intake). Keeps (end_at side at.world) j) (sym (watched_intake (lens_of r side) (until r side i) (watch_from (end_at side r.start) (given_of r side)))) (by_side side)
    where
      by_side : (side : Side) → Keeps (end_at side at.world) (came side (until r side i))
      by_side Client = at.holds.0
      by_side Server = at.holds.1

  -- ---- what is chosen

  -- what one end gave so far is the first of all that it gives
  gave_first : (side : Side) (w : World) → Grown w end → (rest : List (List ℕ)) × (given_by side w ++ rest ≡ given_of r side)
  gave_first Client w g = (g.client.0, g.client.1 ∙ sym run.from_client)
  gave_first Server w g = (g.server.0, g.server.1 ∙ sym run.from_server)

  -- a delivery of what is nothing new is dropped
  delivered_idle : (o : Option (List ℕ)) (side : Side) (i : ℕ) (p : Policy) (e : End) (theirs rest : List (List ℕ)) (delivery : Delivery) (a : Answer) → p ≡ policy_at side r.keys → slice_get theirs delivery.index ≡ o → theirs ++ rest ≡ given_of r (other_side side) → fails a ≡ false → says_last a ≡ false
      → IsDelivered p e delivery o a → Keeps e (watch r side i).intake → is_nothing_new r side i a (handed (given_of r (other_side side)) (calls.Deliver delivery) a) ≡ true → is_idle (calls.Deliver delivery) a ≡ true
  delivered_idle None side i p e theirs rest delivery a own at first served early is k old =
      let clash : ◌≡◌ {A = Bool} false true = subst (λ (b : Answer). is_nothing_new r side i b (handed (given_of r (other_side side)) (calls.Deliver delivery) b) ≡ true) is old in
      absurd cc
  delivered_idle (Some d) side i p e theirs rest delivery a own at first served early (inl is) k old =
      let final : List (List ℕ) = given_of r (other_side side) in
      let there : slice_get final delivery.index ≡ Some d = first_get theirs rest final delivery.index d first at in
      let said : Answer = answers.Deliver (received p e (delivered_by (says_last a) delivery) d).answer in
      let handed_in : is_nothing_new r side i said (slice_get final delivery.index) ≡ true = subst (λ (b : Answer). is_nothing_new r side i b (handed final (calls.Deliver delivery) b) ≡ true) is old in
      let stale : is_nothing_new r side i said (Some d) ≡ true = subst (λ (h : Option (List ℕ)). is_nothing_new r side i said h ≡ true) there handed_in in
      let j : Intake = (watch r side i).intake in
      let dropped = old_is_dropped p e (delivered_by (says_last a) delivery) d j early k (subst (λ (q : Policy). is_new (came_open q j.took said d) j.opened ≡ false) (sym own) (negated _ stale)) in
      let so : a ≡ answers.Deliver (receives.Dropped dropped.0) = is ∙ ap answers.Deliver dropped.1 in
      subst (λ (b : Answer). is_idle (calls.Deliver delivery) b ≡ true) (sym so) dropped.2
    where
      negated : (b : Bool) → not b ≡ true → b ≡ false
      negated true q = sym q
      negated false q = refl
  delivered_idle (Some d) side i p e theirs rest delivery a own at first served early (inr is) k old = let clash : ◌≡◌ {A = Bool} true false = sym (ap fails is) ∙ served in absurd cc

  -- any event that is chosen
  chosen_at : (side : Side) (i : ℕ) (control : Control) (heard : Heard) (e : End) (theirs rest : List (List ℕ)) (call : Call) (a : Answer) → theirs ++ rest ≡ given_of r (other_side side) → fails a ≡ false → says_last a ≡ false
      → IsAnswer (policy_at side r.keys) (reads_window control heard call e) theirs call a → Keeps e (watch r side i).intake → brings_nothing r i (record { side = side; call = call }) a ≡ true → is_idle call a ≡ true
  chosen_at side i control heard e theirs rest (calls.Inject injection) a first served early is k old = refl
  chosen_at side i control heard e theirs rest (calls.Deliver delivery) a first served early is k old = delivered_idle (slice_get theirs delivery.index) side i (policy_at side r.keys) e theirs rest delivery a refl refl first served early is k old
  chosen_at side i control heard e theirs rest call a first served early is k old = absurd cc

  -- at a place up to which memory served
  pub chosen_idle : (i : ℕ) → AreServed r i → FailuresStayBelow r → Chosen (listed_idle r) (take i r.events) (take i r.answers)
  chosen_idle i served below side j call a chosen at_event at_answer =
      let event : RunEvent = record { side = side; call = call } in
      let is_event = taken_get r.events i j event at_event in
      let is_answer = taken_get r.answers i j a at_answer in
      let so = none_at fails r.answers i j a served at_answer in
      let at : Place j = place j so.1 in
      let at_side : IsAt r j side call a = record { event = is_event; answer = is_answer } in
      let theirs = gave_first (other_side side) at.world (grown r.keys at.world (drop j r.events) (drop j r.answers) (drop j r.views) end at.goes_on) in
      chosen_at side j (control_at side at.world) (heard_at side at.world) (end_at side at.world) (given_by (other_side side) at.world) theirs.0 call a theirs.1 so.0 (below j a is_answer) (answered r at.world end j side call a at.goes_on at_side) (recalls_there side j at)
      (of_chosen (brings_nothing r j) (slice_get r.events j) (slice_get r.answers j) event a chosen is_event is_answer)

  -- so without what is chosen it goes on
  pub goes_on_without : AreValidated r → (i : ℕ) → AreServed r i → FailuresStayBelow r → GoesOnWithout (listed_idle r) r i
  goes_on_without validated i served below =
      let at : Place i = place i served in
      let gave = grown r.keys at.world (drop i r.events) (drop i r.answers) (drop i r.views) end at.goes_on in
      let on = erases r.keys (listed_idle r) r.start at.world (take i r.events) (take i r.answers) (take i r.views) validated.start (λ by j v at_view. validated.behind by j v (taken_get r.views i j v at_view)) (chosen_idle i served below) (λ j a at_answer. below j a (taken_get r.answers i j a at_answer)) at.came in
      let client = gave_first Client at.world gave in
      let server = gave_first Server at.world gave in
      record {
        world = on.0;
        follows = on.2;
        client = (client.0, ap (λ (v : World). v.from_client ++ client.0) on.1 ∙ client.1);
        server = (server.0, ap (λ (v : World). v.from_server ++ server.0) on.1 ∙ server.1);
      }

pub isolated_by_lists : (r : Run) (end : World) → AreStarted r.start → IsRun r end → IsolatedByLists r
isolated_by_lists r end started run = goes_on_without r end run started
