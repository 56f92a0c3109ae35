-- The path of an end doesn't change where all that comes to it does from one address.
use Rattle.std.proofs.Common.{◌≡◌, ℕ, suc, ◌&&◌, not, Bool, true, false, List, [], ◌∷◌, refl, sym, ap, ◌∙◌, subst}
use Rattle.std.specs.Prelude.{◌==◌, ◌++◌, if◌then◌else◌}
use Rattle.quic_wire_core.specs.declared.stream_id.Side.{Side}
use Rattle.quic_wire_core.specs.declared.stream_id.Side.TheVariants.{Client}
use Rattle.quic_machine.specs.declared.answers.State.{State}
use Rattle.quic_machine.specs.declared.run.RunEvent.{RunEvent}
use Rattle.quic_machine.specs.declared.run.Call.{Call}
use Rattle.quic_machine.specs.declared.run.Call.TheVariants as calls
use Rattle.quic_machine.specs.declared.run.Answer.{Answer}
use Rattle.quic_machine.specs.declared.run.View.{View}
use Rattle.quic_machine.specs.Machine.{end_at, gave}
use Rattle.quic_headline.specs.Runs.{Run, Told, Packet, and_told, told_at, same_side, state_in, folded, until, given_of}
use Rattle.quic_headline.specs.Observer.{Route, Watch, Lens, watch_from, watch, watch_told, watch_came, watch_moved, watch_moment, watch_given, watch_sent, news, has_opened, moment_of, clock_behind, is_timely, route_behind, tells_address, moved_to, lens_of, path_changes}
use Rattle.quic_headline.specs.InUse.{TellsStays}

-- whether a call delivers nothing but from an address
abbrev pub is_here : ℕ → Call → Bool
is_here remote (calls.Deliver delivery) = delivery.remote == remote
is_here remote call = true

-- whether all events do
abbrev pub all_from : ℕ → List RunEvent → Bool
all_from remote [] = true
all_from remote (event ∷ events) = is_here remote event.call && all_from remote events

-- so do calls at an end
abbrev AreFrom : ℕ → List Told → Type 0
AreFrom remote [] = Unit {0}
AreFrom remote (t ∷ told) = (is_here remote t.call ≡ true) × AreFrom remote told

both : (b c : Bool) → (b && c) ≡ true → (b ≡ true) × (c ≡ true)
both true c is = (refl, is)
both false c is = absurd cc

told_from : (remote : ℕ) (side : Side) (state : State) (events : List RunEvent) (answers : List Answer) (views : List View) → all_from remote events ≡ true → AreFrom remote (told_at side state events answers views)
told_from remote side state [] answers views all = tt
told_from remote side state (event ∷ events) [] views all = tt
told_from remote side state (event ∷ events) (a ∷ answers) [] all = tt
told_from remote side state (event ∷ events) (a ∷ answers) (v ∷ views) all = go (same_side event.side side) (told_from remote side (state_in v side) events answers views parts.1)
  where
    parts : (is_here remote event.call ≡ true) × (all_from remote events ≡ true)
    parts = both (is_here remote event.call) (all_from remote events) all

    go : (b : Bool) → AreFrom remote (told_at side (state_in v side) events answers views) → AreFrom remote ((if b then record { call = event.call; answer = a; state = state } ∷ [] else []) ++ told_at side (state_in v side) events answers views)
    go true rest = (parts.0, rest)
    go false rest = rest

-- ---- the observer

route_here : (serves : Bool) (before came : List Packet) (call : Call) (r : Route) → is_here r.address call ≡ true → route_behind serves before came call r ≡ r
route_here false before came call r here = refl
route_here true before [] call r here = refl
route_here true before (p ∷ ps) (calls.Deliver delivery) r here = ap (λ (b : Bool). if not b && tells_address before p then moved_to delivery.remote r else r) here
route_here true before (p ∷ ps) call r here = refl

given_stays : (b : Bool) (l : Lens) (w : Watch) → (watch_given b l w).route ≡ w.route
given_stays false l w = refl
given_stays true l w = go w.left
  where
    go : (ds : List (List ℕ)) → (watch_sent l.taker ds w).route ≡ w.route
    go [] = refl
    go (d ∷ ds) = refl

timed_stays : (b : Bool) (l : Lens) (w : Watch) → (watch_moment b l.terms w).route ≡ w.route
timed_stays true l w = refl
timed_stays false l w = refl

-- what came with a call is taken
abbrev came_with : Lens → Told → Watch → Watch
came_with l t w =
    let after = and_told l.own l.peer_gave t w.intake in
    watch_came l.terms after (clock_behind w.clock (moment_of t.state (has_opened w.intake after) t.call)) (watch_moved l.serves after t.call w)

told_stays : (l : Lens) (t : Told) (w : Watch) → is_here w.route.address t.call ≡ true → (watch_told l t w).route ≡ w.route
told_stays l t w here =
    given_stays (gave t.answer) l (watch_moment (is_timely t.state t.call) l.terms (came_with l t w))
    ∙ timed_stays (is_timely t.state t.call) l (came_with l t w)
    ∙ route_here l.serves w.intake.took (news w.intake (and_told l.own l.peer_gave t w.intake)) t.call w.route here

all_stay : (l : Lens) (told : List Told) (w : Watch) → AreFrom w.route.address told → (folded (watch_told l) told w).route ≡ w.route
all_stay l [] w from = refl
all_stay l (t ∷ told) w from =
    let stays = told_stays l t w from.0 in
    all_stay l told (watch_told l t w) (subst (λ (r : Route). AreFrom r.address told) (sym stays) from.1) ∙ stays

-- ---- over a run

pub never_changes : (r : Run) (side : Side) (i : ℕ) → all_from (end_at side r.start).path.remote r.events ≡ true → path_changes r side i ≡ false
never_changes r side i all =
    ap (λ (q : Route). not (q.generation == (watch r side i).route.generation)) (stays (suc i))
    ∙ ap (λ (q : Route). not (0 == q.generation)) (stays i)
  where
    stays : (j : ℕ) → (watch r side j).route ≡ record { address = (end_at side r.start).path.remote; generation = 0 }
    stays j = all_stay (lens_of r side) (until r side j) (watch_from (end_at side r.start) (given_of r side)) (told_from (end_at side r.start).path.remote side (end_at side r.start).closing.state r.events _ r.views all)

-- so of no path is it to be known whether the id stays as it comes
pub none_to_tell : (r : Run) (side : Side) (stays : ℕ → Bool) → all_from (end_at side r.start).path.remote r.events ≡ true → TellsStays r side stays
none_to_tell r side stays all i w v served leads behind changes = let clash : false ≡ true = sym (never_changes r side i all) ∙ changes in cc

-- ---- a client's path never changes

client_told : (l : Lens) (t : Told) (w : Watch) → l.serves ≡ false → (watch_told l t w).route ≡ w.route
client_told l t w client =
    given_stays (gave t.answer) l (watch_moment (is_timely t.state t.call) l.terms (came_with l t w))
    ∙ timed_stays (is_timely t.state t.call) l (came_with l t w)
    ∙ ap (λ (b : Bool). route_behind b w.intake.took (news w.intake (and_told l.own l.peer_gave t w.intake)) t.call w.route) client

client_stays : (l : Lens) (told : List Told) (w : Watch) → l.serves ≡ false → (folded (watch_told l) told w).route ≡ w.route
client_stays l [] w client = refl
client_stays l (t ∷ told) w client = client_stays l told (watch_told l t w) client ∙ client_told l t w client

pub client_never : (r : Run) (i : ℕ) → path_changes r Client i ≡ false
client_never r i =
    ap (λ (q : Route). not (q.generation == (watch r Client i).route.generation)) (stays (suc i))
    ∙ ap (λ (q : Route). not (0 == q.generation)) (stays i)
  where
    stays : (j : ℕ) → (watch r Client j).route ≡ record { address = (end_at Client r.start).path.remote; generation = 0 }
    stays j = client_stays (lens_of r Client) (until r Client j) (watch_from (end_at Client r.start) (given_of r Client)) refl

pub client_tells_stays : (r : Run) (stays : ℕ → Bool) → TellsStays r Client stays
client_tells_stays r stays i w v served leads behind changes = let clash : false ≡ true = sym (client_never r i) ∙ changes in cc
