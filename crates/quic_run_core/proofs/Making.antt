-- The two ends of a script, as they are made and as they go on.
use Rattle.std.proofs.Common.{◌≡◌, ◌≢◌, ◌⊎◌, ◌+◌, ◌-◌, ℕ, Bool, true, false, if◌then◌else◌, ◌||◌, inl, inr, List, ◌++◌, [], length, Option, Some, None, Result, Ok, Err, IfOk, OnErr, refl, sym, ap, ◌∙◌, subst, append-nil, append_assoc, arith}
use Rattle.std.specs.Prelude.{replicate, codes, is_some, IfSome, OnOk}
use Rattle.std.specs.declared.alloc.AllocError.{AllocError}
use Rattle.quic_wire_core.specs.declared.stream_id.Side.{Side}
use Rattle.quic_wire_core.specs.declared.stream_id.Side.TheVariants.{Client, Server}
use Rattle.quic_wire_core.specs.StreamId.{other_side}
use Rattle.quic_parameters.specs.Parameters.{ParameterValues}
use Rattle.quic_parameters.specs.ParametersRead.{parameters_at}
use Rattle.quic_machine.specs.declared.answers.ConfigError.{ConfigError}
use Rattle.quic_machine.specs.declared.run.RunEvent.{RunEvent}
use Rattle.quic_machine.specs.declared.run.Call.{Call}
use Rattle.quic_machine.specs.declared.run.Call.TheVariants as calls
use Rattle.quic_machine.specs.declared.run.Answer.{Answer}
use Rattle.quic_config.specs.Transport.{Settings, parameters_of, transport_of, first_mtu}
use Rattle.quic_machine.specs.declared.answers.ConfigError.TheVariants as config_errors
use Rattle.quic_congestion.specs.NewReno.{Reno, RenoSettings, default_reno, reno_made, window_after}
use Rattle.quic_machine.specs.Control.{Control}
use Rattle.quic_machine.specs.Heard.{Heard, nothing_heard}
use Rattle.quic_machine.specs.Parts.{Windows}
use Rattle.quic_machine.specs.Policy.{keys_policy}
use Rattle.quic_machine.specs.End.{End, ConnectionValue, MadeFrom, KeyLimits, are_keys_short, are_sizes_wrong, is_window_small, is_sample_wrong, refusal_of, policy_of, words_drawn}
use Rattle.quic_connection_parts.specs.Configured.{Configured}
use Rattle.quic_connection_parts.specs.Drawn.{words_of, after_words}
use Rattle.quic_connection.specs.Ends.{Serves}
use Rattle.quic_connection.specs.GoingOn.{words_behind}
use Rattle.rand_core.specs.Stream.{Stream, u64_call}
use Rattle.quic_machine.specs.Machine.{World, Policies, IsStep, given_by, end_at, end_met, control_at, heard_at, changed, gives, policy_at}
use Rattle.quic_lines.specs.declared.options.Options.{Options}
use Rattle.quic_machine.specs.Start.{IsMaking, AreStarted}
use Rattle.quic_keys.specs.declared.key.PlainHeaderKey.{PlainHeaderKey}
use Rattle.quic_keys.specs.declared.key.PlainKey.{PlainKey}
use Rattle.quic_keys.specs.Plain.{plain_protection, plain_aead}
use Rattle.quic_keys.specs.KeysOf.{keys_with}
use Rattle.quic_keys.specs.declared.words.Words.{Words}
use Rattle.quic_keys.specs.Words.{stream_from, source_stream, words_from}
use Rattle.quic_keys.proofs.Constant.{words_are}
use Rattle.quic_keys.specs.Policies.{plain_policy}
use Rattle.quic_lines.specs.Options.{limits_in, settings_of, first_windows}
use Rattle.quic_lines.specs.Printed.{line_feed, call_text}
use Rattle.quic_lines.specs.Language.{asked_of, from_address}
use Rattle.quic_run_core.specs.Scripts.{are_short, lack_ends, first_id, first_controller, first_end, first_world, making, Made, Stage, made_or_first, made_at, with_made, with_world, address_at, heading, IsTold, Tells, IsCall, IsSettled, TellsRest, IsSettling}
use Rattle.quic_run_core.specs.declared.session.Session.{Session}
use Rattle.quic_lines.specs.declared.script.LineError.{LineError}
use Rattle.quic_lines.specs.declared.script.LineError.TheVariants.{BadCommand, OutOfMemory}
use Rattle.quic_lines.specs.Refusals.{line_error}
use Rattle.quic_run_core.specs.Stages.{made_in}
use Rattle.quic_connection.specs.Ends.{world_of}

-- why an end is refused, where at most its key lasts too short
abbrev pub for_short : Bool → Option ConfigError
for_short short = if short then Some config_errors.KeyLimit else None

-- the ids of both ends are lawful, and so are sizes that are the default ones, and no first sample:
-- an end is refused for its key alone
for_its_key : (E : Type 0) (side : Side) (settings : Settings) (limits : KeyLimits) (theirs : ParameterValues) → are_sizes_wrong settings theirs ≡ false → is_window_small settings default_reno.initial ≡ false → is_sample_wrong settings.first_sample ≡ false
    → refusal_of {E = E} settings default_reno.initial limits (Ok theirs) (first_id side) (first_id (other_side side)) ≡ for_short (are_keys_short limits)
for_its_key E Client settings limits theirs fits roomy unsampled = rw (fits, roomy, unsampled) refl
for_its_key E Server settings limits theirs fits roomy unsampled = rw (fits, roomy, unsampled) refl

-- the window holds two datagrams of the default size
window_fits : (own : Options) → is_window_small (settings_of own) default_reno.initial ≡ false
window_fits own = refl

sizes_fit : (own peer : Options) → are_sizes_wrong (settings_of own) (parameters_of (settings_of peer)) ≡ false
sizes_fit own peer = refl

-- no first sample is told
unsampled : (own : Options) → is_sample_wrong (settings_of own).first_sample ≡ false
unsampled own = refl

-- an id has eight bytes
pub eight : (side : Side) → length (first_id side) ≡ 8
eight Client = refl
eight Server = refl

-- these ends, which gave these datagrams, with their controllers and counts
abbrev pub the_world : End → End → List (List ℕ) → List (List ℕ) → Reno → Reno → Heard → Heard → World
the_world a b x y c d h l = record { client = a; server = b; from_client = x; from_server = y; client_control = window_after c; server_control = window_after d; client_heard = h; server_heard = l }

-- a stage
abbrev pub the_stage : Options → Options → ℕ → ℕ → Option Made → Stage
the_stage client server client_hears server_hears made = record { client = client; server = server; client_hears = client_hears; server_hears = server_hears; made = made }

-- two ends that are made so meet the premises on ends
pub are_started : (client server : Options) → IsMaking (making Client client) → IsMaking (making Server server) → AreStarted (first_world client server)
are_started client server client_is server_is = record {
  client_making = making Client client;
  server_making = making Server server;
  client_is = client_is;
  server_is = server_is;
  client = made Client client server server_is.says;
  server = made Server server client client_is.says;
  client_gave = refl;
  server_gave = refl;
  client_heard = refl;
  server_heard = refl;
}
  where
    made : (side : Side) (own peer : Options) → parameters_at (making (other_side side) peer).parameters ≡ Ok (parameters_of (settings_of peer))
        → MadeFrom side (making side own).settings first_windows (making (other_side side) peer).parameters (first_id side) (first_id (other_side side)) 0 0 own.validated (words_from own.source) (first_end side own peer)
    made side own peer says = rw says refl

-- the controller that is made of a configuration of these options at moment 0
pub first_control : (own : Options) (config : Configured RenoSettings) (now : ℕ) → config ≡ record { settings = settings_of own; factory = default_reno } → now ≡ 0 → reno_made config.factory now (first_mtu (transport_of config.settings)) ≡ first_controller
first_control own config now is zero = rw (is, zero) refl

-- two such ends that gave and counted nothing are the first ones
pub first_ends : (client server : Options) (a b : End) (x y : List (List ℕ)) (c d : Reno) (h l : Heard) → a ≡ first_end Client client server → b ≡ first_end Server server client → x ≡ [] → y ≡ [] → c ≡ first_controller → d ≡ first_controller → h ≡ nothing_heard → l ≡ nothing_heard
    → the_world a b x y c d h l ≡ first_world client server
first_ends client server a b x y c d h l is_client is_server no_client no_server client_control server_control client_heard server_heard = rw (is_client, is_server, no_client, no_server, client_control, server_control, client_heard, server_heard) refl

-- why an end of these options is refused
pub refusal-made : {E : Type 0} (side other : Side) (own peer : Options) (settings told : Settings) (window : ℕ) (limits : KeyLimits) (read : Result ParameterValues E) (own_id peer_id : List ℕ)
    → settings ≡ settings_of own → told ≡ settings_of peer → window ≡ default_reno.initial → limits ≡ limits_in own → read ≡ Ok (parameters_of told) → own_id ≡ first_id side → other ≡ other_side side → peer_id ≡ first_id other
    → refusal_of settings window limits read own_id peer_id ≡ for_short (are_keys_short (limits_in own))
refusal-made {E} side other own peer settings told window limits read own_id peer_id set said shows lasts is own_is turned peer_is =
    let theirs : ParameterValues = parameters_of (settings_of peer) in
    ap (λ (s : Settings). refusal_of s window limits read own_id peer_id) set
    ∙ ap (λ (n : ℕ). refusal_of (settings_of own) n limits read own_id peer_id) shows
    ∙ ap (λ (l : KeyLimits). refusal_of (settings_of own) default_reno.initial l read own_id peer_id) lasts
    ∙ ap (λ (r : Result ParameterValues E). refusal_of (settings_of own) default_reno.initial (limits_in own) r own_id peer_id) (is ∙ ap (λ (s : Settings). Ok (parameters_of s)) said)
    ∙ ap (λ (id : List ℕ). refusal_of {E = E} (settings_of own) default_reno.initial (limits_in own) (Ok theirs) id peer_id) own_is
    ∙ ap (λ (id : List ℕ). refusal_of {E = E} (settings_of own) default_reno.initial (limits_in own) (Ok theirs) (first_id side) id) (peer_is ∙ ap first_id turned)
    ∙ for_its_key E side (settings_of own) (limits_in own) theirs (sizes_fit own peer) (window_fits own) (unsampled own)

-- where nothing is refused, a key lasts long enough
pub lasting : (short : Bool) (r : Option ConfigError) → r ≡ for_short short → r ≡ None → short ≡ false
lasting true r is none = absurd cc
lasting false r is none = refl

-- what is refused is a key that lasts too short
at_limit : (short : Bool) (e : ConfigError) → Some e ≡ for_short short → short ≡ true
at_limit true e is = refl
at_limit false e is = absurd cc

-- memory lacked, or a key lasts too short
abbrev pub LacksOrShort : LineError → Bool → Type 0
LacksOrShort e short = (e ≡ OutOfMemory) ⊎ ((e ≡ BadCommand) × (short ≡ true))

-- so it is of an end that isn't made
pub lacks_or_short : (short : Bool) (e : ConfigError) (r : Option ConfigError) → r ≡ for_short short → (e ≢ config_errors.Memory → Some e ≡ r) → LacksOrShort (line_error e) short
lacks_or_short short config_errors.Memory r is refusal = inl refl
lacks_or_short short config_errors.Parameters r is refusal = inr (refl, at_limit short config_errors.Parameters (refusal (λ m. cc) ∙ is))
lacks_or_short short config_errors.IdLength r is refusal = inr (refl, at_limit short config_errors.IdLength (refusal (λ m. cc) ∙ is))
lacks_or_short short config_errors.Size r is refusal = inr (refl, at_limit short config_errors.Size (refusal (λ m. cc) ∙ is))
lacks_or_short short config_errors.Window r is refusal = inr (refl, at_limit short config_errors.Window (refusal (λ m. cc) ∙ is))
lacks_or_short short config_errors.KeyLimit r is refusal = inr (refl, at_limit short config_errors.KeyLimit (refusal (λ m. cc) ∙ is))
lacks_or_short short config_errors.FirstSample r is refusal = inr (refl, at_limit short config_errors.FirstSample (refusal (λ m. cc) ∙ is))

-- and of ends of which one isn't made
pub short_too : (a b : Bool) (e : LineError) → (a ≡ true → b ≡ true) → LacksOrShort e a → LacksOrShort e b
short_too a b e more or = elim or [
  | inl memory ↦ inl memory
  | inr short ↦ inr (short.0, more short.1)
]

-- one or the other
pub or_first : (a b : Bool) → a ≡ true → (a || b) ≡ true
or_first true b is = refl
or_first false b is = absurd cc

-- ends can be made of the options where there are none
pub without_ends : (o : Option Session) (client server : Options) → is_some o ≡ false → lack_ends (made_in o) client server ≡ are_short client server
without_ends (Some x) client server none = absurd cc
without_ends None client server none = refl

-- what is made of the options is the first end
pub made_first : (side other : Side) (own peer : Options) (settings told : Settings) (windows : Windows) (bytes items own_id peer_id : List ℕ) (now : ℕ) (words : ℕ → ℕ) (end : End)
    → settings ≡ settings_of own → told ≡ settings_of peer → windows ≡ first_windows → bytes ≡ items → parameters_at items ≡ Ok (parameters_of told) → own_id ≡ first_id side → other ≡ other_side side → peer_id ≡ first_id other → now ≡ 0 → words ≡ words_from own.source
    → MadeFrom side settings windows bytes own_id peer_id 0 now own.validated words end → end ≡ first_end side own peer
made_first side other own peer settings told windows bytes items own_id peer_id now words end set said shows same read own_is turned peer_is zero random made =
    rw (same, read, said, set, shows, own_is, peer_is, turned, zero, random) at made

-- an end with the stand-in keys, whose random source answered as many words as it has drawn
pub plain_at : (side : Side) (own : Options) (w : ConnectionValue PlainHeaderKey PlainKey Words Reno) → w.keys ≡ keys_with own.seal_limit own.open_limit side → stream_from w.random ≡ after_words (words_drawn w.end) (source_stream own.source)
    → Serves (plain_policy (limits_in own) side (words_from own.source)) (policy_of (λ _. plain_protection) (λ k. plain_aead k.mark) (λ k. k.confidentiality_limit) (λ k. k.integrity_limit) (words_of stream_from) w) w.end
plain_at side own w keys random = record {
  keys = ap (λ ks. keys_policy (λ _. plain_protection) (λ k. plain_aead k.mark) (λ k. k.confidentiality_limit) (λ k. k.integrity_limit) ks (words_from own.source)) (sym keys);
  words = λ o n h.
      let drawn : ℕ = words_drawn w.end in
      let sum : n ≡ n - drawn + drawn = omega (arith, h) in
      words_are own.source n
      ∙ ap (λ (m : ℕ). (source_stream own.source).u64_after (replicate m u64_call)) sum
      ∙ sym (words_behind drawn (n - drawn) (source_stream own.source))
      ∙ ap (λ (s : Stream). s.u64_after (replicate (n - drawn) u64_call)) (sym random);
}

-- an end has given what it had given, and more
pub given_more : (P : Policies → Type 0) (k : Policies) (w next : World) (event : RunEvent) (r : Result Answer AllocError) (side : Side) → P k → IfOk r (λ a. (k : Policies) → P k → IsStep k w event a next) → OnErr r (next ≡ w) → (more : List (List ℕ)) × (given_by side next ≡ given_by side w ++ more)
given_more P k w next event (Err e) side is ok err = ([], ap (λ (v : World). given_by side v) err ∙ sym (append-nil (given_by side w)))
given_more P k w next event (Ok a) side is ok err =
    let e = end_at event.side next in
    let ds = gives (policy_at event.side k) (end_met w event) event.call a in
    let here = go event.side side e ds (control_at event.side next) (heard_at event.side next) in
    (here.0, ap (λ (v : World). given_by side v) (ok k is).others ∙ here.1)
  where
    go : (at side : Side) (e : End) (ds : List (List ℕ)) (c : Control) (h : Heard) → (more : List (List ℕ)) × (given_by side (changed at w e ds c h) ≡ given_by side w ++ more)
    go Client Client e ds c h = (ds, refl)
    go Client Server e ds c h = ([], sym (append-nil w.from_server))
    go Server Client e ds c h = ([], sym (append-nil w.from_client))
    go Server Server e ds c h = (ds, refl)

-- a fact of each success
pub on_ok_then : {A E : Type 0} {X Y : Type 0} (r : Result A E) → (X → Y) → OnOk r X → OnOk r Y
on_ok_then (Ok a) f x = f x
on_ok_then (Err e) f x = tt

-- of a moment that there is, a fact under any policies of the ends is one under these
pub if_some_at : (P : Policies → Type 0) (Q : Policies → ℕ → Type 0) (o : Option ℕ) (k : Policies) → P k → IfSome o (λ m. (k : Policies) → P k → Q k m) → IfSome o (λ m. Q k m)
if_some_at P Q (Some m) k is f = f k is
if_some_at P Q None k is f = tt

-- the ends are made where they weren't
pub begun : (o : Option Session) (client server : Options) (x y : ℕ) (s : Session) → is_some o ≡ false → world_of window_after s.ends s.given ≡ first_world client server → s.client ≡ client → s.server ≡ server
    → the_stage client server x y (made_in (Some s)) ≡ with_made (made_or_first (made_in o) client server) (the_stage client server x y (made_in o))
begun (Some o) client server x y s none world client_is server_is = cc
begun None client server x y s none world client_is server_is = rw (world, client_is, server_is) refl

-- ends that were made at a stage, or that were there, go on to another world
pub gone_on : (s : Stage) (client server : Options) (x y : ℕ) (m : Made) (next : World) (policies : Policies) → the_stage client server x y (Some m) ≡ with_made (made_at s) s → policies ≡ m.policies
    → the_stage client server x y (Some (record { world = next; policies = policies })) ≡ with_world next s
gone_on s client server x y m next policies begins same =
    let made : Some m ≡ Some (made_at s) = ap (λ (t : Stage). t.made) begins in
    let is : m ≡ made_at s = cc in
    let over : Option Made = Some (record { world = next; policies = policies }) in
    ap (λ (t : Stage). record t { made = over }) begins
    ∙ ap (λ (p : Policies). with_made (record { world = next; policies = p }) s) (same ∙ ap (λ (n : Made). n.policies) is)

-- both ends settle
pub is_settling : (now : ℕ) (s : Stage) (client server : Options) (x y : ℕ) (m : Made) (next : World) (policies : Policies) (before behind text : List ℕ) → the_stage client server x y (Some m) ≡ with_made (made_at s) s → TellsRest m.policies m.world now before behind next
    → policies ≡ m.policies → before ≡ codes "settle " → text ≡ behind ++ line_feed → IsSettling now s text (the_stage client server x y (Some (record { world = next; policies = policies })))
is_settling now s client server x y m next policies before behind text begins tells same head line =
    let made : Some m ≡ Some (made_at s) = ap (λ (t : Stage). t.made) begins in
    let is : m ≡ made_at s = cc in
    record {
      answer = tells.0;
      next = next;
      settled = subst (λ (n : Made). IsSettled n.policies n.world now tells.0 next) is tells.1;
      line = line ∙ ap (λ (t : List ℕ). t ++ line_feed) (tells.2 ∙ ap (λ (t : List ℕ). t ++ tells.0) head) ∙ append_assoc (codes "settle ") tells.0 line_feed;
      after = gone_on s client server x y m next policies begins same;
    }

-- ---- calls

-- by a call that comes from an address no less is asked for
asked-from : (remote : ℕ) (call : Call) → asked_of (from_address remote call) ≡ asked_of call
asked-from remote (calls.Deliver delivery) = refl
asked-from remote (calls.Inject injection) = refl
asked-from remote call = refl

-- it comes from there
from-there : (remote : ℕ) (call : Call) → from_address remote call ≡ from_address remote (from_address remote call)
from-there remote (calls.Deliver delivery) = refl
from-there remote (calls.Inject injection) = refl
from-there remote call = refl

-- from where what comes to an end does, whether the ends are made or not
address-made : (side : Side) (s : Stage) (m : Made) → address_at side (with_made m s) ≡ address_at side s
address-made Client s m = refl
address-made Server s m = refl

-- a call was made
pub is_call : (side : Side) (old new : Call) (remote : ℕ) (s : Stage) (client server : Options) (x y : ℕ) (m : Made) (next : World) (policies : Policies) (before behind text : List ℕ) → the_stage client server x y (Some m) ≡ with_made (made_at s) s
    → remote ≡ address_at side (the_stage client server x y (Some m)) → new ≡ from_address remote old → Tells m.policies m.world (record { side = side; call = new }) before behind next
    → policies ≡ m.policies → before ≡ heading side (call_text new) → text ≡ behind ++ line_feed → IsCall side (asked_of old) s text (the_stage client server x y (Some (record { world = next; policies = policies })))
is_call side old new remote s client server x y m next policies before behind text begins there comes tells same head line =
    let made : Some m ≡ Some (made_at s) = ap (λ (t : Stage). t.made) begins in
    let is : m ≡ made_at s = cc in
    let remote_is : remote ≡ address_at side s = there ∙ ap (λ (t : Stage). address_at side t) begins ∙ address-made side s (made_at s) in
    record {
      event = record { side = side; call = new };
      of_side = refl;
      of_call = ap (λ (c : Call). asked_of c) comes ∙ asked-from remote old;
      of_address = comes ∙ from-there remote old ∙ ap (λ (c : Call). from_address remote c) (sym comes) ∙ ap (λ (n : ℕ). from_address n new) remote_is;
      answer = tells.0;
      next = next;
      told = subst (λ (n : Made). IsTold n.policies n.world (record { side = side; call = new }) tells.0 next) is tells.1;
      line = line ∙ ap (λ (t : List ℕ). t ++ line_feed) (tells.2 ∙ ap (λ (t : List ℕ). t ++ tells.0) head) ∙ append_assoc (heading side (call_text new)) tells.0 line_feed;
      after = gone_on s client server x y m next policies begins same;
    }
