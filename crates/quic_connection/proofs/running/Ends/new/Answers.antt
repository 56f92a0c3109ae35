use Rattle.std.proofs.Common.{◌≡◌, ◌≢◌, ℕ, ◌-◌, ◌∙◌, List, ap, sym, subst, refl}
use Rattle.std.specs.Prelude.{Ok, None}
use Rattle.std.proofs.lemmas.Result.{IfOk-from_err}
use Rattle.quic_wire_core.specs.declared.stream_id.Side.TheVariants.{Client, Server}
use Rattle.quic_packet.specs.declared.crypto.Keys.{Keys}
use Rattle.quic_congestion.specs.Congestion.{Told, Steps, HasRoom, AreSized, last_size, after_calls}
use Rattle.quic_parameters.specs.ParametersRead.{parameters_at}
use Rattle.quic_config.specs.Transport.{parameters_of, first_mtu}
use Rattle.quic_machine.specs.declared.answers.ConfigError.{ConfigError}
use Rattle.quic_machine.specs.declared.answers.ConfigError.TheVariants as config_errors
use Rattle.quic_machine.specs.Policy.{Policy, keys_policy}
use Rattle.quic_machine.specs.End.{MadeFrom, limits_of, words_drawn}
use Rattle.quic_machine.specs.Start.{IsLawful, AreKeys, AreControlled, Making}
use Rattle.quic_connection.specs.Ends.{controller_for, first_world, IsRefused}
use Rattle.quic_connection_parts.specs.Drawn.{words_of}
use Rattle.quic_connection_parts.specs.Telling.{windows_at, windows_of}
use Rattle.quic_connection.proofs.Pairs.{is_making, refused_for, if_err_returned, client_refused, server_refused, made_window, is_controller, has_room}
use Rattle.quic_connection.proofs.running.Ends.new.Goals as goal

pub returns-in-Ok-clause-keys : goal.returns-in-Ok-clause-keys
returns-in-Ok-clause-keys g c = λ to_server. λ to_client.
    let h = g.met.H.HeaderKey in
    let k = g.met.K.PacketKey in
    let stream = g.R.Rng.stream in
    let lawful : (keys : Keys g.row.H.Denot g.row.K.Denot) (words : ℕ → ℕ) → IsLawful (keys_policy g.H.HeaderKey.protection g.K.PacketKey.aead g.K.PacketKey.seal_limit g.K.PacketKey.refusal_limit keys words) =
    λ keys words. record { form = h.keeps_form keys.header.local; width = h.keeps_length keys.header.local; tag = k.adds_tag keys.packet.local } in
    let client : ℕ → ℕ = λ n. words_of stream c.in_ok-client.client.random (n - words_drawn c.in_ok-client.client.end) in
    let server : ℕ → ℕ = λ n. words_of stream c.in-Ok.server.random (n - words_drawn c.in-Ok.server.end) in
    let policy : Keys g.row.H.Denot g.row.K.Denot → (ℕ → ℕ) → Policy = λ keys words. keys_policy g.H.HeaderKey.protection g.K.PacketKey.aead g.K.PacketKey.seal_limit g.K.PacketKey.refusal_limit keys words in
    subst (λ ks. AreKeys (record { client = policy ks client; server = policy c.in-Ok.server.keys server })) (sym c.in_ok-client.ensures.keys)
    (subst (λ ks. AreKeys (record { client = policy c.args.client.keys client; server = policy ks server })) (sym c.in-Ok.ensures.keys)
    (record { client = lawful c.args.client.keys client; server = lawful c.args.server.keys server; to_server = to_server; to_client = to_client }))

pub returns-in-Ok-clause-controlled : goal.returns-in-Ok-clause-controlled
returns-in-Ok-clause-controlled g c =
    let C = g.C.Controller in
    let keeps = subst (λ (steps : Steps g.row.C.Denot). (d : g.row.C.Denot) (told : List Told) → AreSized told → HasRoom (C.size_of d) (C.window_of d) → HasRoom (last_size (C.size_of d) told) (C.window_of (after_calls steps d told)))
    (sym g.met.C.Controller.steps_are) c.two_datagrams_have_room.ensures.room in
    let client = c.in_ok-client.client in
    let server = c.in-Ok.server in
    let client_shows : client.end.path.window ≡ C.window_of client.control =
    made_window Client c.args.client.config.settings (windows_at C.initial_of C.window_of client.control) (parameters_at c.deref.result.now) c.args.client.id c.args.server.id c.args.client.remote c.args.now c.args.client.validated (words_of g.R.Rng.stream c.args.client.random) client.end c.in_ok-client.ensures.made in
    let server_shows : server.end.path.window ≡ C.window_of server.control =
    made_window Server c.args.server.config.settings (windows_at C.initial_of C.window_of server.control) (parameters_at c.deref-2.result.now) c.args.server.id c.args.client.id c.args.server.remote c.args.now c.args.server.validated (words_of g.R.Rng.stream c.args.server.random) server.end c.in-Ok.ensures.made in
    record {
      client = is_controller C.steps C.size_of C.window_of client.control (first_mtu client.end.transport) client.end.path.window c.in_ok-client.ensures.roomy client_shows keeps;
      server = is_controller C.steps C.size_of C.window_of server.control (first_mtu server.end.transport) server.end.path.window c.in-Ok.ensures.roomy server_shows keeps;
    }

-- the windows hold two datagrams, as the controllers show them
pub returns-in-Ok-clause-have_room : goal.returns-in-Ok-clause-have_room
returns-in-Ok-clause-have_room g c =
    let C = g.C.Controller in
    let client = c.in_ok-client.client in
    let server = c.in-Ok.server in
    let controlled : AreControlled (first_world (windows_of C.steps C.window_of) (record { client = client; server = server })) = returns-in-Ok-clause-controlled g c in
    record {
      controlled = controlled;
      client = has_room C.steps C.size_of C.window_of client.control (first_mtu client.end.transport) client.end.path.window c.in_ok-client.ensures.roomy controlled.client;
      server = has_room C.steps C.size_of C.window_of server.control (first_mtu server.end.transport) server.end.path.window c.in-Ok.ensures.roomy controlled.server;
    }

-- what the ends are made of
pub returns-in-Ok-clause-client : goal.returns-in-Ok-clause-client
returns-in-Ok-clause-client g c =
    subst (λ (bytes : List ℕ). MadeFrom Client c.args.client.config.settings (windows_at g.C.Controller.initial_of g.C.Controller.window_of c.in_ok-client.client.control) bytes c.args.client.id c.args.server.id c.args.client.remote c.args.now c.args.client.validated (words_of g.R.Rng.stream c.args.client.random) c.in_ok-client.client.end)
    (c.deref.ensures.value ∙ c.in_ok-told_by_server.ensures.bytes) c.in_ok-client.ensures.made

pub returns-in-Ok-clause-server : goal.returns-in-Ok-clause-server
returns-in-Ok-clause-server g c =
    subst (λ (bytes : List ℕ). MadeFrom Server c.args.server.config.settings (windows_at g.C.Controller.initial_of g.C.Controller.window_of c.in-Ok.server.control) bytes c.args.server.id c.args.client.id c.args.server.remote c.args.now c.args.server.validated (words_of g.R.Rng.stream c.args.server.random) c.in-Ok.server.end)
    (c.deref-2.ensures.value ∙ c.in_ok-told_by_client.ensures.bytes) c.in-Ok.ensures.made

pub returns-in-Ok-clause-started : goal.returns-in-Ok-clause-started
returns-in-Ok-clause-started g c =
    let client = c.in_ok-client.client in
    let server = c.in-Ok.server in
    let server_says : parameters_at c.deref.result.now ≡ Ok (parameters_of c.args.server.config.settings) = ap (λ (bytes : List ℕ). parameters_at bytes) c.deref.ensures.value ∙ c.in_ok-told_by_server.ensures.read_back in
    let client_says : parameters_at c.deref-2.result.now ≡ Ok (parameters_of c.args.client.config.settings) = ap (λ (bytes : List ℕ). parameters_at bytes) c.deref-2.ensures.value ∙ c.in_ok-told_by_client.ensures.read_back in
    let client_making : Making = record { settings = c.args.client.config.settings; windows = windows_at g.C.Controller.initial_of g.C.Controller.window_of client.control; parameters = c.deref-2.result.now; id = c.args.client.id; remote = c.args.client.remote; moment = c.args.now; validated = c.args.client.validated; words = words_of g.R.Rng.stream c.args.client.random } in
    let server_making : Making = record { settings = c.args.server.config.settings; windows = windows_at g.C.Controller.initial_of g.C.Controller.window_of server.control; parameters = c.deref.result.now; id = c.args.server.id; remote = c.args.server.remote; moment = c.args.now; validated = c.args.server.validated; words = words_of g.R.Rng.stream c.args.server.random } in
    record {
      client_making = client_making;
      server_making = server_making;
      client_is = is_making client_making (g.C.Controller.window_of (controller_for g.F.ControllerFactory.built c.args.client.config c.args.now)) (limits_of g.K.PacketKey.seal_limit g.K.PacketKey.refusal_limit c.args.client.keys) (parameters_at c.deref.result.now) c.args.server.id c.in_ok-told_by_client.ensures.range client_says c.in_ok-client.ensures.lawful;
      server_is = is_making server_making (g.C.Controller.window_of (controller_for g.F.ControllerFactory.built c.args.server.config c.args.now)) (limits_of g.K.PacketKey.seal_limit g.K.PacketKey.refusal_limit c.args.server.keys) (parameters_at c.deref-2.result.now) c.args.client.id c.in_ok-told_by_server.ensures.range server_says c.in-Ok.ensures.lawful;
      client = c.in_ok-client.ensures.made;
      server = c.in-Ok.ensures.made;
      client_gave = refl;
      server_gave = refl;
      client_heard = c.in_ok-client.ensures.heard;
      server_heard = c.in-Ok.ensures.heard;
    }

pub returns-in-Ok-clause-lawful : goal.returns-in-Ok-clause-lawful
returns-in-Ok-clause-lawful g c =
    let server_says : parameters_at c.deref.result.now ≡ Ok (parameters_of c.args.server.config.settings) = ap (λ (bytes : List ℕ). parameters_at bytes) c.deref.ensures.value ∙ c.in_ok-told_by_server.ensures.read_back in
    refused_for c.args.client.config.settings (g.C.Controller.window_of (controller_for g.F.ControllerFactory.built c.args.client.config c.args.now)) (limits_of g.K.PacketKey.seal_limit g.K.PacketKey.refusal_limit c.args.client.keys) c.args.server.config.settings (parameters_at c.deref.result.now) c.args.client.id c.args.server.id None server_says c.in_ok-client.ensures.lawful

pub returns-in-Ok-clause-lawful_server : goal.returns-in-Ok-clause-lawful_server
returns-in-Ok-clause-lawful_server g c =
    let client_says : parameters_at c.deref-2.result.now ≡ Ok (parameters_of c.args.client.config.settings) = ap (λ (bytes : List ℕ). parameters_at bytes) c.deref-2.ensures.value ∙ c.in_ok-told_by_client.ensures.read_back in
    refused_for c.args.server.config.settings (g.C.Controller.window_of (controller_for g.F.ControllerFactory.built c.args.server.config c.args.now)) (limits_of g.K.PacketKey.seal_limit g.K.PacketKey.refusal_limit c.args.server.keys) c.args.client.config.settings (parameters_at c.deref-2.result.now) c.args.server.id c.args.client.id None client_says c.in-Ok.ensures.lawful

pub returns-in_err-client-clause-refusal : goal.returns-in_err-client-clause-refusal
returns-in_err-client-clause-refusal g c =
    let client = c.args.client in
    let server = c.args.server in
    let server_says : parameters_at c.deref.result.now ≡ Ok (parameters_of c.args.server.config.settings) = ap (λ (bytes : List ℕ). parameters_at bytes) c.deref.ensures.value ∙ c.in_ok-told_by_server.ensures.read_back in
    if_err_returned (λ (e : ConfigError). e ≢ config_errors.Memory → IsRefused e client.config.settings server.config.settings (g.C.Controller.window_of (controller_for g.F.ControllerFactory.built c.args.client.config c.args.now)) (g.C.Controller.window_of (controller_for g.F.ControllerFactory.built c.args.server.config c.args.now)) (limits_of g.K.PacketKey.seal_limit g.K.PacketKey.refusal_limit c.args.client.keys) (limits_of g.K.PacketKey.seal_limit g.K.PacketKey.refusal_limit c.args.server.keys) client.id server.id)
    c.from_residual-in_err-client.result c.in_err-client.field-0.0 c.from_residual-in_err-client.ensures.1
    (λ no_memory. client_refused c.in_err-client.field-0.0 client.config.settings server.config.settings (g.C.Controller.window_of (controller_for g.F.ControllerFactory.built c.args.client.config c.args.now)) (g.C.Controller.window_of (controller_for g.F.ControllerFactory.built c.args.server.config c.args.now)) (limits_of g.K.PacketKey.seal_limit g.K.PacketKey.refusal_limit c.args.client.keys) (limits_of g.K.PacketKey.seal_limit g.K.PacketKey.refusal_limit c.args.server.keys) (parameters_at c.deref.result.now) client.id server.id server_says (c.in_err-client.ensures.refusal no_memory))

pub returns-clause-refusal : goal.returns-clause-refusal
returns-clause-refusal g c =
    let client = c.args.client in
    let server = c.args.server in
    let server_says : parameters_at c.deref.result.now ≡ Ok (parameters_of c.args.server.config.settings) = ap (λ (bytes : List ℕ). parameters_at bytes) c.deref.ensures.value ∙ c.in_ok-told_by_server.ensures.read_back in
    let client_says : parameters_at c.deref-2.result.now ≡ Ok (parameters_of c.args.client.config.settings) = ap (λ (bytes : List ℕ). parameters_at bytes) c.deref-2.ensures.value ∙ c.in_ok-told_by_client.ensures.read_back in
    λ no_memory. server_refused c.in-Err.error client.config.settings server.config.settings (g.C.Controller.window_of (controller_for g.F.ControllerFactory.built c.args.client.config c.args.now)) (g.C.Controller.window_of (controller_for g.F.ControllerFactory.built c.args.server.config c.args.now)) (limits_of g.K.PacketKey.seal_limit g.K.PacketKey.refusal_limit c.args.client.keys) (limits_of g.K.PacketKey.seal_limit g.K.PacketKey.refusal_limit c.args.server.keys) (parameters_at c.deref.result.now) (parameters_at c.deref-2.result.now) client.id server.id server_says c.in_ok-client.ensures.lawful client_says (c.in-Err.ensures.refusal no_memory)

pub returns-in_err-told_by_server-clause-refusal : goal.returns-in_err-told_by_server-clause-refusal
returns-in_err-told_by_server-clause-refusal g c =
    let client = c.args.client in
    let server = c.args.server in
    if_err_returned (λ (e : ConfigError). e ≢ config_errors.Memory → IsRefused e client.config.settings server.config.settings (g.C.Controller.window_of (controller_for g.F.ControllerFactory.built c.args.client.config c.args.now)) (g.C.Controller.window_of (controller_for g.F.ControllerFactory.built c.args.server.config c.args.now)) (limits_of g.K.PacketKey.seal_limit g.K.PacketKey.refusal_limit c.args.client.keys) (limits_of g.K.PacketKey.seal_limit g.K.PacketKey.refusal_limit c.args.server.keys) client.id server.id)
    c.from_residual-in_err-told_by_server.result c.in_err-told_by_server.field-0.0 c.from_residual-in_err-told_by_server.ensures.1
    (λ other. absurd (other c.in_err-told_by_server.ensures.memory))
