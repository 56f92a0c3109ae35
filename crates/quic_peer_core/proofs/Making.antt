-- An end as it is made.
use Rattle.std.proofs.Common.{◌≡◌, ◌≢◌, ℕ, List, ◌++◌, Option, Some, None, Result, Ok, Err, IfOk, sym, subst, ap, ◌∙◌}
use Rattle.std.specs.Prelude.{codes, IfErr, OnOk}
use Rattle.rand_core.specs.Stream.{Stream}
use Rattle.quic_packet.specs.declared.crypto.Keys.{Keys}
use Rattle.quic_parameters.specs.ParametersRead.{parameters_at}
use Rattle.quic_parameters.specs.ParametersWritten.{written_parameters}
use Rattle.quic_config.specs.Transport.{Settings, parameters_of, transport_of, first_mtu}
use Rattle.quic_congestion.specs.NewReno.{Reno, RenoSettings, default_reno, reno_made}
use Rattle.quic_machine.specs.Heard.{nothing_heard}
use Rattle.quic_machine.specs.declared.answers.ConfigError.{ConfigError}
use Rattle.quic_machine.specs.declared.answers.ConfigError.TheVariants as config_errors
use Rattle.quic_machine.specs.Parts.{Windows}
use Rattle.quic_machine.specs.End.{MadeFrom, KeyLimits, limits_of, refusal_of, words_drawn}
use Rattle.quic_connection_parts.specs.Configured.{Configured}
use Rattle.quic_connection_parts.specs.Drawn.{words_of, after_words}
use Rattle.quic_connection_parts.specs.Telling.{windows_at}
use Rattle.quic_keys.specs.declared.key.PlainHeaderKey.{PlainHeaderKey}
use Rattle.quic_keys.specs.declared.key.PlainKey.{PlainKey}
use Rattle.quic_lines.specs.declared.options.Options.{Options}
use Rattle.quic_keys.specs.declared.words.Words.{Words}
use Rattle.quic_keys.specs.KeysOf.{keys_with}
use Rattle.quic_connection.specs.Ends.{in_order}
use Rattle.quic_lines.specs.Options.{settings_of, first_windows}
use Rattle.quic_lines.specs.Printed.{bytes_text, line_feed}
use Rattle.quic_keys.specs.Words.{stream_from, source_stream}
use Rattle.quic_lines.proofs.Sources.{words_same}
use Rattle.quic_peer_core.specs.declared.command.NewEnd.{NewEnd}
use Rattle.quic_peer_core.specs.Printed.{line_text, parameters_text, refusal_text}
use Rattle.quic_peer_core.specs.Peer.{Held, IsNew, IsMaking, Stage, refusal, with_held}

-- the configuration of these options
abbrev pub configured : Options → Configured RenoSettings
configured options = record { settings = settings_of options; factory = default_reno }

-- the controller that is made of a configuration at a moment
abbrev pub built : Configured RenoSettings → ℕ → Reno
built config now = reno_made config.factory now (first_mtu (transport_of config.settings))

-- the windows that a controller shows
abbrev pub shown : Reno → Windows
shown r = windows_at (λ (q : Reno). q.settings.initial) (λ (q : Reno). q.window) r

-- so an end is made of its options
pub is_new : (options : Options) (new : NewEnd) (config : Configured RenoSettings) (bytes : List ℕ) (keys : Keys PlainHeaderKey PlainKey) (random : Words) (r : Result Held ConfigError)
    → config ≡ configured options → bytes ≡ new.parameters → keys ≡ keys_with options.seal_limit options.open_limit new.side → stream_from random ≡ source_stream options.source
    → IfOk r (λ c. MadeFrom new.side config.settings (shown c.control) bytes new.id new.peer_id 0 new.now options.validated (words_of stream_from random) c.end)
    → IfOk r (λ c. c.control ≡ built config new.now) → IfOk r (λ c. c.keys ≡ keys) → IfOk r (λ c. stream_from c.random ≡ after_words (words_drawn c.end) (stream_from random))
    → IfOk r (λ c. c.heard ≡ nothing_heard) → IfOk r (λ c. IsNew options new c)
is_new options new config bytes keys random (Err e) is same own from made control kept drawn none = tt
is_new options new config bytes keys random (Ok held) is same own from made control kept drawn none =
    let reno : held.control ≡ reno_made default_reno new.now 1200 = control ∙ ap (λ (c : Configured RenoSettings). built c new.now) is in
    let windows : shown held.control ≡ first_windows = ap shown reno in
    let settings : config.settings ≡ settings_of options = ap (λ (c : Configured RenoSettings). c.settings) is in
    record {
      end =
          subst (λ (w : ℕ → ℕ). MadeFrom new.side (settings_of options) first_windows new.parameters new.id new.peer_id 0 new.now options.validated w held.end) (words_same options.source random from)
          (subst (λ (b : List ℕ). MadeFrom new.side (settings_of options) first_windows b new.id new.peer_id 0 new.now options.validated (words_of stream_from random) held.end) same
          (subst (λ (w : Windows). MadeFrom new.side (settings_of options) w bytes new.id new.peer_id 0 new.now options.validated (words_of stream_from random) held.end) windows
          (subst (λ (s : Settings). MadeFrom new.side s (shown held.control) bytes new.id new.peer_id 0 new.now options.validated (words_of stream_from random) held.end) settings made)));
      control = reno;
      keys = kept ∙ own;
      random = drawn ∙ ap (λ (s : Stream). after_words (words_drawn held.end) s) from;
      heard = none;
    }

-- how many packets keys seal at most, and may refuse
abbrev pub lasting : Keys PlainHeaderKey PlainKey → KeyLimits
lasting keys = limits_of (λ (k : PlainKey). k.confidentiality_limit) (λ (k : PlainKey). k.integrity_limit) keys

-- why none is made, as its options and these say
refusal-is : (options : Options) (new : NewEnd) (config : Configured RenoSettings) (bytes : List ℕ) (keys : Keys PlainHeaderKey PlainKey) → config ≡ configured options → bytes ≡ new.parameters → keys ≡ keys_with options.seal_limit options.open_limit new.side
    → refusal_of config.settings (built config new.now).window (lasting keys) (parameters_at bytes) new.id new.peer_id ≡ refusal options new
refusal-is options new config bytes keys is same own =
    ap (λ (c : Configured RenoSettings). refusal_of c.settings (built c new.now).window (lasting keys) (parameters_at bytes) new.id new.peer_id) is
    ∙ ap (λ (b : List ℕ). refusal_of (settings_of options) default_reno.initial (lasting keys) (parameters_at b) new.id new.peer_id) same
    ∙ ap (λ (k : Keys PlainHeaderKey PlainKey). refusal_of (settings_of options) default_reno.initial (lasting k) (parameters_at new.parameters) new.id new.peer_id) own

-- nothing stands against an end that is made
pub is_lawful : (options : Options) (new : NewEnd) (config : Configured RenoSettings) (bytes : List ℕ) (keys : Keys PlainHeaderKey PlainKey) (r : Result Held ConfigError)
    → config ≡ configured options → bytes ≡ new.parameters → keys ≡ keys_with options.seal_limit options.open_limit new.side
    → OnOk r (refusal_of config.settings (built config new.now).window (lasting keys) (parameters_at bytes) new.id new.peer_id ≡ None) → OnOk r (refusal options new ≡ None)
is_lawful options new config bytes keys (Err e) is same own lawful = tt
is_lawful options new config bytes keys (Ok held) is same own lawful = sym (refusal-is options new config bytes keys is same own) ∙ lawful

-- and it is told why none is made, unless memory lacked
pub is_refused : (options : Options) (new : NewEnd) (config : Configured RenoSettings) (bytes : List ℕ) (keys : Keys PlainHeaderKey PlainKey) (r : Result Held ConfigError)
    → config ≡ configured options → bytes ≡ new.parameters → keys ≡ keys_with options.seal_limit options.open_limit new.side
    → IfErr r (λ e. e ≢ config_errors.Memory → Some e ≡ refusal_of config.settings (built config new.now).window (lasting keys) (parameters_at bytes) new.id new.peer_id)
    → IfErr r (λ e. e ≢ config_errors.Memory → refusal options new ≡ Some e)
is_refused options new config bytes keys (Ok held) is same own refused = tt
is_refused options new config bytes keys (Err e) is same own refused = λ stands. sym (refused stands ∙ refusal-is options new config bytes keys is same own)

-- a refusal that is printed isn't want of memory
pub told-refusal : (e : ConfigError) (name : List ℕ) → refusal_text e ≡ Some name → e ≢ config_errors.Memory
told-refusal e name told is =
    let none : refusal_text e ≡ None = ap (λ (x : ConfigError). refusal_text x) is in
    cc

-- an end is made, and that is told
pub making-made : (new : NewEnd) (s t : Stage) (held : Held) (text : List ℕ) → refusal s.options new ≡ None → IsNew s.options new held → text ≡ line_text (codes "new") (codes "ok") → t ≡ with_held s held → IsMaking (refusal s.options new) new s text t
making-made new s t held text lawful is told left = subst (λ (r : Option ConfigError). IsMaking r new s text t) (sym lawful) (held, is, told, left)

-- none is made, and it is told why
pub making-refused : (new : NewEnd) (s t : Stage) (e : ConfigError) (name text : List ℕ) → (e ≢ config_errors.Memory → refusal s.options new ≡ Some e) → refusal_text e ≡ Some name → text ≡ line_text (codes "new") name → t ≡ s → IsMaking (refusal s.options new) new s text t
making-refused new s t e name text stands named told same = subst (λ (r : Option ConfigError). IsMaking r new s text t) (sym (stands (told-refusal e name named))) (name, named, told, same)

-- its own parameters are told
pub told-parameters : (options : Options) (config : Configured RenoSettings) (items given before mid text : List ℕ) → config ≡ configured options → items ≡ written_parameters (parameters_of config.settings) in_order → given ≡ items
    → before ≡ codes "params " → mid ≡ before ++ bytes_text given → text ≡ mid ++ line_feed → text ≡ line_text (codes "params") (parameters_text options)
told-parameters options config items given before mid text is written same first told last =
    let settings : config.settings ≡ settings_of options = ap (λ (c : Configured RenoSettings). c.settings) is in
    let bytes : given ≡ written_parameters (parameters_of (settings_of options)) in_order = same ∙ (written ∙ ap (λ (s : Settings). written_parameters (parameters_of s) in_order) settings) in
    let line : text ≡ (codes "params " ++ bytes_text given) ++ line_feed = last ∙ ap (λ (t : List ℕ). t ++ line_feed) (told ∙ ap (λ (t : List ℕ). t ++ bytes_text given) first) in
    line ∙ ap (λ (b : List ℕ). (codes "params " ++ bytes_text b) ++ line_feed) bytes
