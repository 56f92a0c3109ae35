-- A group holds at each place of an honest run, both ways.
use Rattle.std.proofs.Common.{◌≡◌, ℕ, zero, suc, List, [], ◌∷◌, ◌++◌, drop, length, Bool, false, Some, refl, sym, ap, ◌∙◌, subst, inl, inr, ◌*◌}
use Rattle.std.specs.Prelude.{slice_get, Result, Ok}
use Rattle.std.proofs.lemmas.List.{append-nil}
use Rattle.quic_wire_core.specs.declared.stream_id.Side.{Side}
use Rattle.quic_wire_core.specs.declared.stream_id.Side.TheVariants.{Client, Server}
use Rattle.quic_wire_core.specs.StreamId.{other_side}
use Rattle.quic_config.specs.Transport.{Settings, parameters_of}
use Rattle.quic_headline.specs.RoundTrip.{first_round}
use Rattle.quic_parameters.specs.Parameters.{ParameterValues}
use Rattle.quic_parameters.specs.ParametersRead.{parameters_at}
use Rattle.quic_machine.specs.declared.run.RunEvent.{RunEvent}
use Rattle.quic_machine.specs.declared.run.Call.{Call}
use Rattle.quic_machine.specs.declared.run.Call.TheVariants as calls
use Rattle.quic_machine.specs.declared.answers.State.{State}
use Rattle.quic_machine.specs.declared.run.Answer.{Answer}
use Rattle.quic_machine.specs.declared.run.View.{View}
use Rattle.quic_machine.specs.Ids.{own_id}
use Rattle.quic_machine.specs.Opens.{own_id_length}
use Rattle.quic_machine.specs.Policy.{Policy}
use Rattle.quic_machine.specs.Parts.{Windows}
use Rattle.quic_machine.specs.End.{End, IsMade, new_end}
use Rattle.quic_congestion.specs.Pacer.{Pacing}
use Rattle.quic_machine.specs.Control.{Control, with_pacing}
use Rattle.quic_machine.specs.Heard.{Heard}
use Rattle.quic_machine.specs.Start.{AreStarted}
use Rattle.quic_machine.specs.Machine.{World, Policies, IsAnswer, IsLeft, IsStep, after_call, reads_window, end_left, end_at, end_met, control_at, given_by, gives, policy_at, fails, Follows, view_of, heard_at}
use Rattle.quic_headline.specs.Runs.{Run, Told, In, given_of, told_by, ids_of, until, state_at, LeadsTo, AreServed}
use Rattle.quic_headline.specs.Observer.{Sent, terms_of, watch}
use Rattle.quic_headline.specs.Headline.{IsHonest, IsRun, IsAt, used, CodeIsSmall}
use Rattle.quic_headline.specs.Amounts.{making_at}
use Rattle.quic_headline.proofs.Places.Parties.{sents_by, told_of, Party, called, watch_of, AreJoined, turned, Beginning, begun_as, AreMade, Shown, with_shown, shown_at, shown_by, paced_by, pacing_behind}
use Rattle.quic_headline.proofs.Places.Groups.{Way, Nothing, Calls, Group, turned_makings}
use Rattle.quic_headline.proofs.Places.Moments.{Grown, grown, Moment, moment, last_view}

-- ---- how an honest run begins

-- what an end is made as
made_is : {E : Type 0} (side : Side) (settings : Settings) (windows : Windows) (r : Result ParameterValues E) (theirs : ParameterValues) (own_id peer_id : List ℕ) (remote now : ℕ) (validated : Bool) (words : ℕ → ℕ) (e : End) → r ≡ Ok theirs → IsMade side settings windows r own_id peer_id remote now validated words e
    → e ≡ new_end side settings windows theirs own_id peer_id remote now validated words
made_is side settings windows r theirs own_id peer_id remote now validated words e is made = rw is at made

-- the ends as they were made
pub start_is : (w : World) (s : AreStarted w) (side : Side)
    → end_at side w ≡ new_end side (making_at side w s).settings (making_at side w s).windows (parameters_of (making_at (other_side side) w s).settings) (making_at side w s).id (making_at (other_side side) w s).id (making_at side w s).remote (making_at side w s).moment (making_at side w s).validated (making_at side w s).words
start_is w s Client = made_is Client s.client_making.settings s.client_making.windows (parameters_at s.server_making.parameters) (parameters_of s.server_making.settings) s.client_making.id s.server_making.id s.client_making.remote s.client_making.moment s.client_making.validated s.client_making.words w.client s.server_is.says s.client
start_is w s Server = made_is Server s.server_making.settings s.server_making.windows (parameters_at s.client_making.parameters) (parameters_of s.client_making.settings) s.server_making.id s.client_making.id s.server_making.remote s.server_making.moment s.server_making.validated s.server_making.words w.server s.client_is.says s.server

-- the id that an end is known by first
abbrev pub first_id : Run → Side → List ℕ
first_id r side = own_id (end_at side r.start).ids.living

-- ---- the ends of a run at a place

-- one end, with how what it gave was sent and what was told at it
abbrev pub party : Run → Side → World → List Sent → List Told → Party
party r side w sents told = record {
  side = side;
  policy = policy_at side r.keys;
  id = first_id r side;
  began = (end_at side r.start).closing.clock;
  first_rtt = first_round (end_at side r.start).transport;
  initial_delay = (end_at side r.start).peer_params.max_ack_delay * 1000000;
  terms = terms_of (end_at side r.start);
  final = given_of r side;
  made = end_at side r.start;
  end = end_at side w;
  given = given_by side w;
  sents = sents;
  told = told;
}

-- one end behind the first so many answers
abbrev pub party_at : Run → ℕ → World → Side → List Sent → Party
party_at r i w side sents = party r side w sents (until r side i)

-- A group at a place of a run, told of one of its ends: how the run comes there and goes on, how
-- what both ends gave was sent, and what holds where this end gives and where it takes.
pub record Placed (G : Way) (r : Run) (end : World) (side : Side) (i : ℕ) : Type 0 where
  pub world : World
  pub leads : LeadsTo r i world
  pub goes_on : Follows r.keys world (drop i r.events) (drop i r.answers) (drop i r.views) end
  pub state : (end_at side world).closing.state ≡ state_at r side i
  pub sents : List Sent
  pub theirs : List Sent
  pub joined : AreJoined (party_at r i world side sents) (party_at r i world (other_side side) theirs)
  pub gives : G (party_at r i world side sents) (party_at r i world (other_side side) theirs)
  pub takes : G (party_at r i world (other_side side) theirs) (party_at r i world side sents)

-- what stands at a place is the first of what is left from there on
pub first_left : {X : Type 0} (xs : List X) (i : ℕ) (x : X) → slice_get xs i ≡ Some x → drop i xs ≡ x ∷ drop (suc i) xs
first_left [] i x q = cc
first_left (y ∷ xs) zero x q = let same : y ≡ x = cc in ap (λ t. t ∷ xs) same
first_left (y ∷ xs) (suc i) x q = first_left xs i x q

-- so it is in the list
pub stands_in : {X : Type 0} (xs : List X) (i : ℕ) (x : X) → slice_get xs i ≡ Some x → In x xs
stands_in [] i x q = cc
stands_in (y ∷ xs) zero x q = let same : y ≡ x = cc in inl (sym same)
stands_in (y ∷ xs) (suc i) x q = inr (stands_in xs i x q)

-- what the run answers next
next_answer : (k : Policies) (w end : World) (events : List RunEvent) (answers : List Answer) (views : List View) (event : RunEvent) (a : Answer) → Follows k w (event ∷ events) (a ∷ answers) views end
    → IsAnswer (policy_at event.side k) (end_met w event) (given_by (other_side event.side) w) event.call a
next_answer k w end events answers [] event a f = absurd f
next_answer k w end events answers (v ∷ views) event a f = f.1.answer

-- what is answered at a place
pub answered : (r : Run) (w end : World) (i : ℕ) (side : Side) (call : Call) (a : Answer) → Follows r.keys w (drop i r.events) (drop i r.answers) (drop i r.views) end → IsAt r i side call a
    → IsAnswer (policy_at side r.keys) (reads_window (control_at side w) (heard_at side w) call (end_at side w)) (given_by (other_side side) w) call a
answered r w end i side call a f at =
    let event : RunEvent = record { side = side; call = call } in
    next_answer r.keys w end (drop (suc i) r.events) (drop (suc i) r.answers) (drop i r.views) event a (rw (first_left r.events i event at.event, first_left r.answers i a at.answer) at f)

-- the view behind an event shows the ends there
pub shown : (r : Run) (w : World) (i : ℕ) (v : View) → LeadsTo r (suc i) w → slice_get r.views i ≡ Some v → v ≡ view_of w
shown r w i v leads there = last_view r.keys i r.start w r.events r.answers r.views v leads there

-- what a group says less holds at the place too
abbrev pub placed_less : (C G : Way) (r : Run) (end : World) (side : Side) (i : ℕ) → ((x y : Party) → C x y → G x y) → Placed C r end side i → Placed G r end side i
placed_less C G r end side i less at = record {
  world = at.world;
  leads = at.leads;
  goes_on = at.goes_on;
  state = at.state;
  sents = at.sents;
  theirs = at.theirs;
  joined = at.joined;
  gives = less (party_at r i at.world side at.sents) (party_at r i at.world (other_side side) at.theirs) at.gives;
  takes = less (party_at r i at.world (other_side side) at.theirs) (party_at r i at.world side at.sents) at.takes;
}

-- the observer of an end is that of the run
pub watch_is : (r : Run) (honest : IsHonest r) (w : World) (i : ℕ) (side : Side) (sents theirs : List Sent) → watch r side i ≡ watch_of (party_at r i w side sents) (party_at r i w (other_side side) theirs)
watch_is r honest w i side sents theirs = refl

-- what was told at one of the ends
abbrev told_there : Side → List Told → List Told → List Told
told_there Client client server = client
told_there Server client server = server

-- what an event leaves, where memory served
left_by : (p : Policy) (control : Control) (heard : Heard) (e next : End) (theirs : List (List ℕ)) (call : Call) (a : Answer) → fails a ≡ false → IsLeft (fails a) p control heard e theirs call a next → next ≡ end_left p control heard e theirs call a
left_by p control heard e next theirs call a served is = subst (λ (b : Bool). IsLeft b p control heard e theirs call a next) served is

module _ (G : Way) (g : Group Nothing G) (r : Run) (end : World) (honest : IsHonest r) (run : IsRun r end) where
  -- how an end began
  abbrev beginning : Side → Beginning
  beginning side = record { side = side; policy = policy_at side r.keys; making = making_at side r.start honest.start; final = given_of r side }

  -- both were made for one another
  are_made : AreMade (beginning Client) (beginning Server)
  are_made = record {
    x_is = honest.start.client_is;
    y_is = honest.start.server_is;
    joined = record {
      y_side = refl;
      x_side = refl;
      to_y = honest.keys.to_server;
      to_x = honest.keys.to_client;
      x_lawful = honest.keys.client;
      y_lawful = honest.keys.server;
      x_long = honest.start.client_is.id;
      y_long = honest.start.server_is.id;
      x_more = (r.from_client, refl);
      y_more = (r.from_server, refl);
    };
  }

  -- an end that has given these, before anything was told
  abbrev fresh : Side → End → List (List ℕ) → Party
  fresh side e ds = record { side = side; policy = policy_at side r.keys; id = own_id e.ids.living; began = e.closing.clock; first_rtt = first_round e.transport; initial_delay = e.peer_params.max_ack_delay * 1000000; terms = terms_of e; final = given_of r side; made = e; end = e; given = ds; sents = []; told = [] }

  gave_nothing : (side : Side) → given_by side r.start ≡ []
  gave_nothing Client = honest.start.client_gave
  gave_nothing Server = honest.start.server_gave

  -- an end at the start
  party_first : (side : Side) → party r side r.start [] [] ≡ begun_as (beginning side) (beginning (other_side side))
  party_first side =
      ap (λ (e : End). fresh side e (given_by side r.start)) (start_is r.start honest.start side)
      ∙ ap (λ (ds : List (List ℕ)). fresh side (begun_as (beginning side) (beginning (other_side side))).end ds) (gave_nothing side)

  -- what holds at a world, both ways
  record Holds (w : World) (client server : List Told) : Type 0 where
    client_sents : List Sent
    server_sents : List Sent
    to_server : G (party r Client w client_sents client) (party r Server w server_sents server)
    to_client : G (party r Server w server_sents server) (party r Client w client_sents client)

  -- the calls of an application use ids that were opened or accepted at their end, and codes
  abbrev Uses : RunEvent → Answer → List Told → List Told → Type 0
  Uses event a client server = ((id : ℕ) → used event.call ≡ Some id → In id (ids_of (told_there event.side client server))) × CodeIsSmall event.call

  long_id : (side : Side) → length (making_at side r.start honest.start).id ≡ own_id_length → length (first_id r side) ≡ own_id_length
  long_id side long = ap (λ (e : End). length (own_id e.ids.living)) (start_is r.start honest.start side) ∙ long

  -- what both ends gave is the first of what they give
  joined_at : (w : World) (client_sents server_sents : List Sent) (client server : List Told) → Grown w end → AreJoined (party r Client w client_sents client) (party r Server w server_sents server)
  joined_at w client_sents server_sents client server grows = record {
    y_side = refl;
    x_side = refl;
    to_y = honest.keys.to_server;
    to_x = honest.keys.to_client;
    x_lawful = honest.keys.client;
    y_lawful = honest.keys.server;
    x_long = long_id Client honest.start.client_is.id;
    y_long = long_id Server honest.start.server_is.id;
    x_more = (grows.client.0, grows.client.1 ∙ sym run.from_client);
    y_more = (grows.server.0, grows.server.1 ∙ sym run.from_server);
  }

  -- what was given is the same
  same_grown : (v w : World) → w.from_client ≡ v.from_client → w.from_server ≡ v.from_server → Grown v end → Grown w end
  same_grown v w client server g = record {
    client = (g.client.0, ap (λ (ds : List (List ℕ)). ds ++ g.client.0) client ∙ g.client.1);
    server = (g.server.0, ap (λ (ds : List (List ℕ)). ds ++ g.server.0) server ∙ g.server.1);
  }

  -- nothing was said before
  called_bare : (x y : Party) (call : Call) (a : Answer) → AreJoined x y → AreJoined (called x y.given call a) y → IsAnswer x.policy x.end y.given call a → fails a ≡ false → ((id : ℕ) → used call ≡ Some id → In id (ids_of x.told)) × CodeIsSmall call → Calls Nothing x y call a
  called_bare x y call a before behind answer served uses = record { joined = before; answer = answer; served = served; uses = uses.0; codes = uses.1; joined_behind = behind; gives = tt; takes = tt; gives_behind = tt; takes_behind = tt }

  -- an event keeps it
  event_keeps : (w next : World) (event : RunEvent) (a : Answer) (client server : List Told) → Holds w client server → Uses event a client server → IsStep r.keys w event a next → fails a ≡ false → Grown w end → Grown next end
      → Holds next (client ++ told_by Client w.client.closing.state event a) (server ++ told_by Server w.server.closing.state event a)
  event_keeps w next event a client server h uses is_step served grows grows_behind = go event.side event.call uses is_step
    where
      -- the client makes a call, and has become this end for it; behind the call it has this pacer
      client_calls : (call : Call) (met : End) (pacing : Pacing) → met.closing.state ≡ w.client.closing.state → Uses (record { side = Client; call = call }) a client server → IsAnswer r.keys.client met w.from_server call a
          → next ≡ record w { client = with_pacing (after_call r.keys.client met w.from_server call a) pacing; from_client = w.from_client ++ gives r.keys.client met call a; client_control = next.client_control; client_heard = next.client_heard }
          → G (party r Client (record w { client = met }) h.client_sents client) (party r Server w h.server_sents server) → G (party r Server w h.server_sents server) (party r Client (record w { client = met }) h.client_sents client)
          → Holds next (client ++ told_of call a w.client.closing.state ∷ []) (server ++ [])
      client_calls call met pacing same uses answer is there back =
          let here : World = record w { client = met } in
          let left : World = record w { client = after_call r.keys.client met w.from_server call a; from_client = w.from_client ++ gives r.keys.client met call a; client_control = next.client_control; client_heard = next.client_heard } in
          let after : World = record left { client = with_pacing left.client pacing } in
          let x : Party = party r Client here h.client_sents client in
          let y : Party = party r Server w h.server_sents server in
          let c : Calls Nothing x y call a =
          called_bare x y call a (joined_at here h.client_sents h.server_sents client server (same_grown w here refl refl grows))
          (joined_at left (h.client_sents ++ sents_by r.keys.client met call a) h.server_sents (client ++ told_of call a met.closing.state ∷ []) server (same_grown after left refl refl (subst (λ (v : World). Grown v end) is grows_behind))) answer served uses in
          let behind : Shown = paced_by (called x y.given call a).end pacing in
          let gives_left = g.writer x y call a c there back in
          let takes_left = g.reader x y call a c there back in
          subst (λ (s : State). Holds next (client ++ told_of call a s ∷ []) (server ++ [])) same
          (subst (λ (v : World). Holds v (client ++ told_of call a met.closing.state ∷ []) (server ++ [])) (sym is)
          (subst (λ (ts : List Told). Holds after (client ++ told_of call a met.closing.state ∷ []) ts) (sym (append-nil server)) (record {
            client_sents = h.client_sents ++ sents_by r.keys.client met call a;
            server_sents = h.server_sents;
            to_server = g.shows (called x y.given call a) y behind (shown_by y.end) tt tt gives_left takes_left;
            to_client = g.shows y (called x y.given call a) (shown_by y.end) behind tt tt takes_left gives_left;
          })))

      -- the client makes a call, and a poll reads a window first
      client_meets : (call : Call) → Uses (record { side = Client; call = call }) a client server → IsStep r.keys w (record { side = Client; call = call }) a next
          → next ≡ record w { client = end_left r.keys.client w.client_control w.client_heard w.client w.from_server call a; from_client = w.from_client ++ gives r.keys.client (reads_window w.client_control w.client_heard call w.client) call a; client_control = next.client_control; client_heard = next.client_heard }
          → Holds next (client ++ told_of call a w.client.closing.state ∷ []) (server ++ [])
      client_meets (calls.Poll now) uses step is =
          let shown : Shown = shown_at Client w in
          let x : Party = party r Client w h.client_sents client in
          let y : Party = party r Server w h.server_sents server in
          let met : End = with_shown w.client shown in
          client_calls (calls.Poll now) met (pacing_behind r.keys.client w.client_control met w.from_server (calls.Poll now) a) refl uses step.answer is
          (g.shows x y shown (shown_by y.end) tt tt h.to_server h.to_client)
          (g.shows y x (shown_by y.end) shown tt tt h.to_client h.to_server)
      client_meets call uses step is = client_calls call w.client (pacing_behind r.keys.client w.client_control w.client w.from_server call a) refl uses step.answer is h.to_server h.to_client

      -- the server makes a call, and has become this end for it; behind the call it has this pacer
      server_calls : (call : Call) (met : End) (pacing : Pacing) → met.closing.state ≡ w.server.closing.state → Uses (record { side = Server; call = call }) a client server → IsAnswer r.keys.server met w.from_client call a
          → next ≡ record w { server = with_pacing (after_call r.keys.server met w.from_client call a) pacing; from_server = w.from_server ++ gives r.keys.server met call a; server_control = next.server_control; server_heard = next.server_heard }
          → G (party r Server (record w { server = met }) h.server_sents server) (party r Client w h.client_sents client) → G (party r Client w h.client_sents client) (party r Server (record w { server = met }) h.server_sents server)
          → Holds next (client ++ []) (server ++ told_of call a w.server.closing.state ∷ [])
      server_calls call met pacing same uses answer is there back =
          let here : World = record w { server = met } in
          let left : World = record w { server = after_call r.keys.server met w.from_client call a; from_server = w.from_server ++ gives r.keys.server met call a; server_control = next.server_control; server_heard = next.server_heard } in
          let after : World = record left { server = with_pacing left.server pacing } in
          let x : Party = party r Server here h.server_sents server in
          let y : Party = party r Client w h.client_sents client in
          let c : Calls Nothing x y call a =
          called_bare x y call a (turned y x (joined_at here h.client_sents h.server_sents client server (same_grown w here refl refl grows)))
          (turned y (called x y.given call a) (joined_at left h.client_sents (h.server_sents ++ sents_by r.keys.server met call a) client (server ++ told_of call a met.closing.state ∷ []) (same_grown after left refl refl (subst (λ (v : World). Grown v end) is grows_behind)))) answer served uses in
          let behind : Shown = paced_by (called x y.given call a).end pacing in
          let gives_left = g.writer x y call a c there back in
          let takes_left = g.reader x y call a c there back in
          subst (λ (s : State). Holds next (client ++ []) (server ++ told_of call a s ∷ [])) same
          (subst (λ (v : World). Holds v (client ++ []) (server ++ told_of call a met.closing.state ∷ [])) (sym is)
          (subst (λ (ts : List Told). Holds after ts (server ++ told_of call a met.closing.state ∷ [])) (sym (append-nil client)) (record {
            client_sents = h.client_sents;
            server_sents = h.server_sents ++ sents_by r.keys.server met call a;
            to_server = g.shows y (called x y.given call a) (shown_by y.end) behind tt tt takes_left gives_left;
            to_client = g.shows (called x y.given call a) y behind (shown_by y.end) tt tt gives_left takes_left;
          })))

      -- the server makes a call, and a poll reads a window first
      server_meets : (call : Call) → Uses (record { side = Server; call = call }) a client server → IsStep r.keys w (record { side = Server; call = call }) a next
          → next ≡ record w { server = end_left r.keys.server w.server_control w.server_heard w.server w.from_client call a; from_server = w.from_server ++ gives r.keys.server (reads_window w.server_control w.server_heard call w.server) call a; server_control = next.server_control; server_heard = next.server_heard }
          → Holds next (client ++ []) (server ++ told_of call a w.server.closing.state ∷ [])
      server_meets (calls.Poll now) uses step is =
          let shown : Shown = shown_at Server w in
          let x : Party = party r Server w h.server_sents server in
          let y : Party = party r Client w h.client_sents client in
          let met : End = with_shown w.server shown in
          server_calls (calls.Poll now) met (pacing_behind r.keys.server w.server_control met w.from_client (calls.Poll now) a) refl uses step.answer is
          (g.shows x y shown (shown_by y.end) tt tt h.to_client h.to_server)
          (g.shows y x (shown_by y.end) shown tt tt h.to_server h.to_client)
      server_meets call uses step is = server_calls call w.server (pacing_behind r.keys.server w.server_control w.server w.from_client call a) refl uses step.answer is h.to_client h.to_server

      go : (side : Side) (call : Call) → Uses (record { side = side; call = call }) a client server → IsStep r.keys w (record { side = side; call = call }) a next
          → Holds next (client ++ told_by Client w.client.closing.state (record { side = side; call = call }) a) (server ++ told_by Server w.server.closing.state (record { side = side; call = call }) a)
      go Client call uses step =
          let control : Control = next.client_control in
          let heard : Heard = next.client_heard in
          let given : List (List ℕ) = w.from_client ++ gives r.keys.client (reads_window w.client_control w.client_heard call w.client) call a in
          client_meets call uses step (step.others ∙ ap (λ (e : End). record w { client = e; from_client = given; client_control = control; client_heard = heard }) (left_by r.keys.client w.client_control w.client_heard w.client next.client w.from_server call a served step.end))
      go Server call uses step =
          let control : Control = next.server_control in
          let heard : Heard = next.server_heard in
          let given : List (List ℕ) = w.from_server ++ gives r.keys.server (reads_window w.server_control w.server_heard call w.server) call a in
          server_meets call uses step (step.others ∙ ap (λ (e : End). record w { server = e; from_server = given; server_control = control; server_heard = heard }) (left_by r.keys.server w.server_control w.server_heard w.server next.server w.from_client call a served step.end))

  -- before the first event
  holds_first : Holds r.start [] []
  holds_first = record {
    client_sents = [];
    server_sents = [];
    to_server = from_begun Client Server refl refl (g.first (beginning Client) (beginning Server) are_made tt tt);
    to_client = from_begun Server Client refl refl (g.first (beginning Server) (beginning Client) (turned_makings (beginning Client) (beginning Server) are_made) tt tt);
  }
    where
      from_begun : (side other : Side) → other ≡ other_side side → side ≡ other_side other → G (begun_as (beginning side) (beginning other)) (begun_as (beginning other) (beginning side)) → G (party r side r.start [] []) (party r other r.start [] [])
      from_begun Client Server a b holds = subst (λ (x : Party). G x (party r Server r.start [] [])) (sym (party_first Client)) (subst (λ (y : Party). G (begun_as (beginning Client) (beginning Server)) y) (sym (party_first Server)) holds)
      from_begun Server Client a b holds = subst (λ (x : Party). G x (party r Client r.start [] [])) (sym (party_first Server)) (subst (λ (y : Party). G (begun_as (beginning Server) (beginning Client)) y) (sym (party_first Client)) holds)
      from_begun Client Client a b holds = cc
      from_begun Server Server a b holds = cc

  -- the ends at a place
  place : (i : ℕ) → AreServed r i → Moment r.keys end Uses Holds event_keeps r.start i r.events r.answers r.views (until r Client i) (until r Server i)
  place i served = moment r.keys end Uses Holds event_keeps i r.start r.events r.answers r.views [] [] holds_first each run.follows served
    where
      each : (j : ℕ) (event : RunEvent) (a : Answer) → slice_get r.events j ≡ Some event → slice_get r.answers j ≡ Some a → Uses event a (until r Client j) (until r Server j)
      each j event a at_event at_answer = go event.side event.call at_event
        where
          go : (side : Side) (call : Call) → slice_get r.events j ≡ Some (record { side = side; call = call }) → Uses (record { side = side; call = call }) a (until r Client j) (until r Server j)
          go Client call is = (λ id uses. honest.ids Client j id call a (record { event = is; answer = at_answer }) uses, run.codes (record { side = Client; call = call }) (stands_in r.events j (record { side = Client; call = call }) is))
          go Server call is = (λ id uses. honest.ids Server j id call a (record { event = is; answer = at_answer }) uses, run.codes (record { side = Server; call = call }) (stands_in r.events j (record { side = Server; call = call }) is))

  -- the group at each place, told of either end
  pub placed : (side : Side) (i : ℕ) → AreServed r i → Placed G r end side i
  placed side i served = at side
    where
      m : Moment r.keys end Uses Holds event_keeps r.start i r.events r.answers r.views (until r Client i) (until r Server i)
      m = place i served

      joined : AreJoined (party_at r i m.world Client m.holds.client_sents) (party_at r i m.world Server m.holds.server_sents)
      joined = joined_at m.world m.holds.client_sents m.holds.server_sents (until r Client i) (until r Server i) (grown r.keys m.world (drop i r.events) (drop i r.answers) (drop i r.views) end m.goes_on)

      at : (side : Side) → Placed G r end side i
      at Client = record {
        world = m.world;
        leads = m.came;
        goes_on = m.goes_on;
        state = m.state Client;
        sents = m.holds.client_sents;
        theirs = m.holds.server_sents;
        joined = joined;
        gives = m.holds.to_server;
        takes = m.holds.to_client;
      }
      at Server = record {
        world = m.world;
        leads = m.came;
        goes_on = m.goes_on;
        state = m.state Server;
        sents = m.holds.server_sents;
        theirs = m.holds.client_sents;
        joined = turned (party_at r i m.world Client m.holds.client_sents) (party_at r i m.world Server m.holds.server_sents) joined;
        gives = m.holds.to_client;
        takes = m.holds.to_server;
      }
