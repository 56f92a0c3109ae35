-- What it takes to make an end of a peer's parameters.
use Rattle.std.proofs.Common.{◌≡◌, ◌==◌, ◌≤◌, ℕ, nat_lt, List, length, Bool, true, false, cond, not, ◌||◌, Option, Some, None, refl, sym, ap, subst, inl, inr}
use Rattle.std.specs.Prelude.{Result, Ok, Err, OnOk, IfOk, IfErr, IsErrAnd}
use Rattle.std.proofs.lemmas.Bool.{eqb-true, ltb-false}
use Rattle.quic_wire_core.specs.declared.stream_id.Side.{Side}
use Rattle.quic_parameters.specs.Parameters.{ParameterValues}
use Rattle.quic_parameters.specs.ParametersRead.{parameters_at}
use Rattle.quic_congestion.specs.Congestion.{Told, Steps, HasRoom, AreSized, last_size, after_calls}
use Rattle.quic_machine.specs.declared.answers.ConfigError.{ConfigError}
use Rattle.quic_machine.specs.declared.answers.ConfigError.TheVariants as config_errors
use Rattle.quic_config.specs.Transport.{Settings, parameters_of, IsInRange}
use Rattle.quic_machine.specs.End.{End, IsMade, are_sizes_wrong, is_window_small, KeyLimits, are_keys_short, is_sample_wrong, refusal_of, most_payload}
use Rattle.quic_machine.specs.Parts.{Windows}
use Rattle.quic_machine.specs.Start.{Making, IsMaking, IsController}
use Rattle.quic_connection_parts.specs.Telling.{IsRoomy, windows_of}
use Rattle.quic_connection.specs.Ends.{refusal_for, IsRefused}

-- a fact of each success
pub on_ok : {A E : Type 0} {X : Type 0} (r : Result A E) → X → OnOk r X
on_ok (Ok a) x = x
on_ok (Err e) x = tt

pub on_ok_then : {A E : Type 0} {X Y : Type 0} (r : Result A E) → (X → Y) → OnOk r X → OnOk r Y
on_ok_then (Ok a) f x = f x
on_ok_then (Err e) f x = tt

pub if_ok_then : {A E : Type 0} {P Q : A → Type 0} (r : Result A E) → ((a : A) → P a → Q a) → IfOk r P → IfOk r Q
if_ok_then (Ok a) f p = f a p
if_ok_then (Err e) f p = tt

-- a fact of each refusal
pub if_err_then : {A E : Type 0} {P Q : E → Type 0} (r : Result A E) → ((e : E) → P e → Q e) → IfErr r P → IfErr r Q
if_err_then (Ok a) f p = tt
if_err_then (Err e) f p = f e p

-- an own id that isn't refused has eight bytes
id_length : {E : Type 0} (settings : Settings) (window : ℕ) (limits : KeyLimits) (r : Result ParameterValues E) (own peer : List ℕ) → refusal_of settings window limits r own peer ≡ None → length own ≡ 8
id_length settings window limits (Err error) own peer none = cc
id_length settings window limits (Ok theirs) own peer none = go (length own == 8) (length peer == 0) refl none
  where
    go : (a b : Bool) → (length own == 8) ≡ a → cond (not a || b) (Some config_errors.IdLength) (cond (are_sizes_wrong settings theirs) (Some config_errors.Size) (cond (is_window_small settings window) (Some config_errors.Window) (cond (are_keys_short limits) (Some config_errors.KeyLimit) (cond (is_sample_wrong settings.first_sample) (Some config_errors.FirstSample) None)))) ≡ None → length own ≡ 8
    go true b q h = eqb-true (length own) 8 q
    go false b q h = cc

-- no path has to carry more than a UDP payload may have, where the sizes aren't refused
fits_payload : {E : Type 0} (settings : Settings) (window : ℕ) (limits : KeyLimits) (r : Result ParameterValues E) (own peer : List ℕ) → refusal_of settings window limits r own peer ≡ None → settings.min_mtu ≤ most_payload
fits_payload settings window limits (Err error) own peer none = cc
fits_payload settings window limits (Ok theirs) own peer none = go (not (length own == 8) || (length peer == 0)) (nat_lt most_payload settings.initial_mtu) (nat_lt most_payload settings.min_mtu) refl none
  where
    go : (a b c : Bool) → nat_lt most_payload settings.min_mtu ≡ c
        → cond a (Some config_errors.IdLength) (cond ((b || c) || nat_lt theirs.max_udp_payload_size settings.min_mtu) (Some config_errors.Size) (cond (is_window_small settings window) (Some config_errors.Window) (cond (are_keys_short limits) (Some config_errors.KeyLimit) (cond (is_sample_wrong settings.first_sample) (Some config_errors.FirstSample) None)))) ≡ None → settings.min_mtu ≤ most_payload
    go true b c q h = cc
    go false true c q h = cc
    go false false true q h = cc
    go false false false q h = ltb-false most_payload settings.min_mtu q

-- how an end was made that isn't refused
pub is_making : {E : Type 0} (m : Making) (window : ℕ) (limits : KeyLimits) (r : Result ParameterValues E) (peer : List ℕ) → IsInRange m.settings → parameters_at m.parameters ≡ Ok (parameters_of m.settings) → refusal_of m.settings window limits r m.id peer ≡ None → IsMaking m
is_making m window limits r peer range says none = record {
  range = range;
  says = says;
  id = id_length m.settings window limits r m.id peer none;
  sizes = fits_payload m.settings window limits r m.id peer none;
}

-- a refusal behind parameters that can be read
pub refused_for : {E : Type 0} (own_settings : Settings) (window : ℕ) (limits : KeyLimits) (peer_settings : Settings) (r : Result ParameterValues E) (own peer : List ℕ) (o : Option ConfigError) → r ≡ Ok (parameters_of peer_settings) → refusal_of own_settings window limits r own peer ≡ o → refusal_for own_settings window limits peer_settings own peer ≡ o
refused_for own_settings window limits peer_settings r own peer o is refusal = rw is at refusal

-- what is said of an error that is returned as it came
pub if_err_returned : {A E : Type 0} (P : E → Type 0) (r : Result A E) (e : E) → IsErrAnd r (λ y. y ≡ e) → P e → IfErr r P
if_err_returned P (Ok a) e returned p = tt
if_err_returned P (Err y) e returned p = subst P (sym returned) p

-- the client's error is a refusal of both
pub client_refused : {E : Type 0} (e : ConfigError) (client server : Settings) (client_window server_window : ℕ) (client_limits server_limits : KeyLimits) (r : Result ParameterValues E) (client_id server_id : List ℕ)
    → r ≡ Ok (parameters_of server) → Some e ≡ refusal_of client client_window client_limits r client_id server_id
    → IsRefused e client server client_window server_window client_limits server_limits client_id server_id
client_refused e client server client_window server_window client_limits server_limits r client_id server_id is refusal =
    inl (refused_for client client_window client_limits server r client_id server_id (Some e) is (sym refusal))

-- so is the server's, where the client isn't refused
pub server_refused : {E : Type 0} (e : ConfigError) (client server : Settings) (client_window server_window : ℕ) (client_limits server_limits : KeyLimits) (r s : Result ParameterValues E) (client_id server_id : List ℕ)
    → r ≡ Ok (parameters_of server) → refusal_of client client_window client_limits r client_id server_id ≡ None
    → s ≡ Ok (parameters_of client) → Some e ≡ refusal_of server server_window server_limits s server_id client_id
    → IsRefused e client server client_window server_window client_limits server_limits client_id server_id
server_refused e client server client_window server_window client_limits server_limits r s client_id server_id is none says refusal =
    inr (refused_for client client_window client_limits server r client_id server_id None is none, refused_for server server_window server_limits client s server_id client_id (Some e) says (sym refusal))

-- an end that was made shows the window that its controller did
pub made_window : {E : Type 0} (side : Side) (settings : Settings) (windows : Windows) (r : Result ParameterValues E) (own peer : List ℕ) (remote now : ℕ) (validated : Bool) (words : ℕ → ℕ) (e : End)
    → IsMade side settings windows r own peer remote now validated words e → e.path.window ≡ windows.present
made_window side settings windows (Ok theirs) own peer remote now validated words e made = ap (λ (x : End). x.path.window) made
made_window side settings windows (Err error) own peer remote now validated words e made = absurd made

-- a controller that has room for two datagrams keeps it
pub is_controller : {C : Type 0} (steps : Steps C) (size_of window_of : C → ℕ) (c : C) (size present : ℕ) → IsRoomy size_of window_of c size → present ≡ window_of c
    → ((d : C) (calls : List Told) → AreSized calls → HasRoom (size_of d) (window_of d) → HasRoom (last_size (size_of d) calls) (window_of (after_calls steps d calls)))
    → IsController (windows_of steps window_of c) size present
is_controller steps size_of window_of c size present roomy shown keeps = record {
  first = sym shown;
  room = λ told sized room. subst (λ (n : ℕ). HasRoom (last_size n told) (windows_of steps window_of c told)) roomy.size
      (keeps c told sized (subst (λ (n : ℕ). HasRoom n (window_of c)) (sym roomy.size) roomy.room));
}

-- whose window two datagrams fit, as long as it is told nothing
pub has_room : {C : Type 0} (steps : Steps C) (size_of window_of : C → ℕ) (c : C) (size present : ℕ) → IsRoomy size_of window_of c size → IsController (windows_of steps window_of c) size present → HasRoom size present
has_room steps size_of window_of c size present roomy controls = subst (λ (n : ℕ). HasRoom size n) controls.first roomy.room
