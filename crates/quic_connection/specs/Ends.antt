-- What the machine sees of two ends with their keys and random sources, and of the datagrams that
-- they gave.
use Rattle.std.specs.Prelude.{Bool, true, ℕ, ◌≡◌, ◌≢◌, ◌≤◌, ◌-◌, ◌⊎◌, List, [], ◌∷◌, Option, Some, None, Result, Ok, Err}
use Rattle.rand_core.specs.Stream.{Stream}
use Rattle.quic_config.specs.Transport.{Settings, parameters_of, transport_of, first_mtu}
use Rattle.quic_packet.specs.Keys.{Protection, Aead}
use Rattle.quic_machine.specs.declared.answers.Failed.{Failed}
use Rattle.quic_machine.specs.declared.answers.Transmit.{Transmit}
use Rattle.quic_machine.specs.declared.run.RunEvent.{RunEvent}
use Rattle.quic_machine.specs.declared.run.Answer.{Answer}
use Rattle.quic_machine.specs.declared.run.View.{View}
use Rattle.quic_machine.specs.declared.answers.ConfigError.{ConfigError}
use Rattle.quic_machine.specs.declared.answers.State.TheVariants as states
use Rattle.quic_machine.specs.declared.run.Call.{Call}
use Rattle.quic_machine.specs.declared.run.Call.TheVariants as calls
use Rattle.quic_machine.specs.CallCases.{may_draw}
use Rattle.quic_machine.specs.Policy.{Policy}
use Rattle.quic_machine.specs.End.{End, ConnectionValue, policy_of, KeyLimits, refusal_of, words_drawn}
use Rattle.quic_machine.specs.Control.{Control}
use Rattle.quic_connection_parts.specs.Configured.{Configured}
use Rattle.quic_connection_parts.specs.Drawn.{words_of, after_words}
use Rattle.quic_headline.specs.Runs.{Run, LeadsTo}
use Rattle.quic_headline.specs.Headline.{IsHonest}
use Rattle.quic_machine.specs.Machine.{World, Policies}
use Rattle.quic_connection.specs.declared.running.Ends.{Ends}
use Rattle.quic_connection.specs.declared.running.Given.{Given}
use Rattle.quic_connection.specs.declared.running.Outcome.{Outcome}

-- both ends, whose controllers show these windows, what each has given, and what it counted
abbrev pub world_of : {H K R C : Type 0} → (C → Control) → Ends H K R C → Given → World
world_of windows ends given = record {
  client = ends.client.end;
  server = ends.server.end;
  from_client = given.client.items;
  from_server = given.server.items;
  client_control = windows ends.client.control;
  server_control = windows ends.server.control;
  client_heard = ends.client.heard;
  server_heard = ends.server.heard;
}

-- both ends, of which neither has given anything
abbrev pub first_world : {H K R C : Type 0} → (C → Control) → Ends H K R C → World
first_world windows ends = record {
  client = ends.client.end;
  server = ends.server.end;
  from_client = [];
  from_server = [];
  client_control = windows ends.client.control;
  server_control = windows ends.server.control;
  client_heard = ends.client.heard;
  server_heard = ends.server.heard;
}

-- what the keys of both ends do, how long they last, and which words their random sources answer
abbrev pub policies_of : {H K R C : Type 0} → (H → Protection) → (K → Aead) → (K → ℕ) → (K → ℕ) → (R → Stream) → Ends H K R C → Policies
policies_of protection aead seals openings stream ends = record {
  client = policy_of protection aead seals openings (words_of stream) ends.client;
  server = policy_of protection aead seals openings (words_of stream) ends.server;
}

-- the datagram that a poll gave, where it gave one
abbrev pub kept : Result (Option Transmit) Failed → List ℕ → List (List ℕ)
kept (Ok (Some transmit)) bytes = bytes ∷ []
kept (Ok None) bytes = []
kept (Err failed) bytes = []

-- ---- keys and random sources as ends go on

-- An end goes on from one value to another: its keys stay, and unless it has failed, its random
-- source answers what is left behind the words that were drawn.
pub record GoesOn {H K R C : Type 0} (stream : R → Stream) (old new : ConnectionValue H K R C) : Type 0 where
  pub keys : new.keys ≡ old.keys
  pub served : new.end.closing.state ≢ states.Failed → old.end.closing.state ≢ states.Failed
  pub drawn : new.end.closing.state ≢ states.Failed → words_drawn old.end ≤ words_drawn new.end
  pub random : new.end.closing.state ≢ states.Failed → stream new.random ≡ after_words (words_drawn new.end - words_drawn old.end) (stream old.random)

-- whether a call may leave another state of a random source: one that may draw words of it, or hand
-- bytes in
abbrev pub may_move : Call → Bool
may_move (calls.Inject injection) = true
may_move call = may_draw call

-- so do both ends
pub record GoOn {H K R C : Type 0} (stream : R → Stream) (old new : Ends H K R C) : Type 0 where
  pub client : GoesOn stream old.client new.client
  pub server : GoesOn stream old.server new.server

-- A policy does at an end what another one does: its keys do, and unless the end has failed, it
-- answers the same of all words that aren't drawn yet.
pub record Serves (k p : Policy) (e : End) : Type 0 where
  pub keys : k ≡ record p { words = k.words }
  pub words : e.closing.state ≢ states.Failed → (n : ℕ) → words_drawn e ≤ n → k.words n ≡ p.words n

-- policies do at two ends what their keys and random sources do from here on
pub record AreOf {H K R C : Type 0} (k : Policies) (protection : H → Protection) (aead : K → Aead) (seals openings : K → ℕ) (stream : R → Stream) (ends : Ends H K R C) : Type 0 where
  pub client : Serves k.client (policy_of protection aead seals openings (words_of stream) ends.client) ends.client.end
  pub server : Serves k.server (policy_of protection aead seals openings (words_of stream) ends.server) ends.server.end

-- transport parameters in ascending order of their ids
abbrev pub in_order : List ℕ
in_order = 0 ∷ 1 ∷ 2 ∷ 3 ∷ 4 ∷ 5 ∷ 6 ∷ 7 ∷ 8 ∷ 9 ∷ 10 ∷ 11 ∷ 12 ∷ []

-- a run that began with these ends
abbrev pub run_of : {H K R C : Type 0} → Policies → (C → Control) → Ends H K R C → List RunEvent → List Answer → List View → Given → Run
run_of keys windows ends events answers views given = record {
  keys = keys;
  start = first_world windows ends;
  events = events;
  answers = answers;
  views = views;
  from_client = given.client.items;
  from_server = given.server.items;
}

-- the ends that a run leaves, and what they gave
abbrev pub world_left : {H K R C : Type 0} → (C → Control) → Outcome H K R C → World
world_left windows o = world_of windows o.ends o.given

-- a fact of the run of these ends over these events that came out so, where the run is honest
abbrev pub OnHonest : {H K R C : Type 0} → (H → Protection) → (K → Aead) → (K → ℕ) → (K → ℕ) → (R → Stream) → (C → Control) → Ends H K R C → List RunEvent → Outcome H K R C → (Run → Type 0) → Type 0
OnHonest protection aead seals openings stream windows ends events o P =
    let r = run_of (policies_of protection aead seals openings stream ends) windows ends events o.answers.items o.views.items o.given in
    IsHonest r → P r

-- a fact of the run of these ends over these events that came out so, and of the ends that it left,
-- whatever the ends, the keys and the applications
abbrev pub OnRun : {H K R C : Type 0} → (H → Protection) → (K → Aead) → (K → ℕ) → (K → ℕ) → (R → Stream) → (C → Control) → Ends H K R C → List RunEvent → Outcome H K R C → (Run → World → Type 0) → Type 0
OnRun protection aead seals openings stream windows ends events o P = P (run_of (policies_of protection aead seals openings stream ends) windows ends events o.answers.items o.views.items o.given) (world_left windows o)

-- a fact of both ends at each place of the run, where this one holds of the first ends
abbrev pub AtEachPlace : {H K R C : Type 0} → (H → Protection) → (K → Aead) → (K → ℕ) → (K → ℕ) → (R → Stream) → (C → Control) → Ends H K R C → List RunEvent → Outcome H K R C → (World → Type 0) → (World → Type 0) → Type 0
AtEachPlace protection aead seals openings stream windows ends events o Begins P =
    let r = run_of (policies_of protection aead seals openings stream ends) windows ends events o.answers.items o.views.items o.given in
    Begins r.start → (i : ℕ) (w : World) → LeadsTo r i w → P w

-- ---- making two ends

-- the controller of a configuration, as it is made at a moment
abbrev pub controller_for : {F C : Type 0} → (F → ℕ → ℕ → C) → Configured F → ℕ → C
controller_for built config now = built config.factory now (first_mtu (transport_of config.settings))

-- why an end isn't made for a peer with these settings and this id, whose controller shows this
-- window and whose keys last so long, want of memory aside
abbrev pub refusal_for : Settings → ℕ → KeyLimits → Settings → List ℕ → List ℕ → Option ConfigError
refusal_for own window limits peer own_id peer_id = refusal_of {E = Unit {0}} own window limits (Ok (parameters_of peer)) own_id peer_id

-- two ends with these settings are refused, whose controllers show these windows, and whose keys
-- last so long: the client is, or else the server
abbrev pub IsRefused : ConfigError → Settings → Settings → ℕ → ℕ → KeyLimits → KeyLimits → List ℕ → List ℕ → Type 0
IsRefused e client server client_window server_window client_limits server_limits client_id server_id =
    (refusal_for client client_window client_limits server client_id server_id ≡ Some e)
    ⊎ ((refusal_for client client_window client_limits server client_id server_id ≡ None) × (refusal_for server server_window server_limits client server_id client_id ≡ Some e))
