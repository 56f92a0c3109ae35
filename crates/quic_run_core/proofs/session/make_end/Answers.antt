use Rattle.std.proofs.Common.{◌≡◌, ℕ, List, Ok, ap, subst, ◌∙◌, lit≤}
use Rattle.rand_core.specs.Stream.{Stream}
use Rattle.quic_parameters.specs.ParametersRead.{parameters_at}
use Rattle.quic_wire_core.specs.StreamId.{other_side}
use Rattle.quic_parameters.specs.ParametersWritten.{written_parameters}
use Rattle.quic_config.specs.Transport.{Settings, parameters_of, IsInRange}
use Rattle.quic_congestion.specs.NewReno.{Reno, RenoSettings}
use Rattle.quic_connection_parts.specs.Configured.{Configured}
use Rattle.quic_connection_parts.specs.Telling.{windows_at}
use Rattle.quic_connection.specs.Ends.{in_order}
use Rattle.quic_lines.specs.declared.options.Options.{Options}
use Rattle.quic_lines.specs.Options.{settings_of}
use Rattle.quic_run_core.specs.Scripts.{first_controller}
use Rattle.quic_connection_parts.specs.Drawn.{after_words}
use Rattle.quic_lines.proofs.Sources.{words_same}
use Rattle.quic_run_core.proofs.Making.{first_control, refusal-made, lasting, lacks_or_short, made_first, eight}
use Rattle.std.proofs.lemmas.Result.{err_from_is_err_and}
use Rattle.quic_machine.specs.End.{limits_of, words_drawn}
use Rattle.quic_keys.specs.declared.key.PlainKey.{PlainKey}
use Rattle.quic_run_core.proofs.session.make_end.Goals as goal

pub returns-clause-control : goal.returns-clause-control
returns-clause-control c = c.in_ok-end.ensures.control ∙ first_control c.args.own.now c.config-2.result _ c.config-2.ensures c.from_nanos.ensures

pub returns-clause-end : goal.returns-clause-end
returns-clause-end c =
    let control : c.in_ok-end.end.control ≡ first_controller = c.in_ok-end.ensures.control ∙ first_control c.args.own.now c.config-2.result _ c.config-2.ensures c.from_nanos.ensures in
    made_first c.args.side c.not.result c.args.own.now c.args.peer.now _ c.config.result.settings _ _ _ _ _ _ _ _
    (ap (λ (x : Configured RenoSettings). x.settings) c.config-2.ensures) (ap (λ (x : Configured RenoSettings). x.settings) c.config.ensures) (ap (λ (r : Reno). windows_at (λ (q : Reno). q.settings.initial) (λ (q : Reno). q.window) r) control)
    c.deref.ensures.value c.in_ok-parameters.ensures.read_back c.first_id.ensures c.not.ensures c.first_id-2.ensures c.from_nanos.ensures (words_same c.args.own.now.source c.of.result c.of.ensures) c.in_ok-end.ensures.made

pub returns-clause-making : goal.returns-clause-making
returns-clause-making c =
    let peer : Options = c.args.peer.now in
    let set : c.config.result.settings ≡ settings_of peer = ap (λ (x : Configured RenoSettings). x.settings) c.config.ensures in
    record {
      range = subst (λ (s : Settings). IsInRange s) set c.in_ok-parameters.ensures.range;
      says = subst (λ (s : Settings). parameters_at (written_parameters (parameters_of s) in_order) ≡ Ok (parameters_of s)) set
          (subst (λ (bytes : List ℕ). parameters_at bytes ≡ Ok (parameters_of c.config.result.settings)) c.in_ok-parameters.ensures.bytes c.in_ok-parameters.ensures.read_back);
      id = eight (other_side c.args.side);
      sizes = lit≤ tt;
    }

pub returns-clause-lasts : goal.returns-clause-lasts
returns-clause-lasts c =
    let read = ap (λ (bytes : List ℕ). parameters_at bytes) c.deref.ensures.value ∙ c.in_ok-parameters.ensures.read_back in
    let shows = ap (λ (r : Reno). r.window) (first_control c.args.own.now c.config-2.result _ c.config-2.ensures c.from_nanos.ensures) in
    let lasts = ap (λ keys. limits_of (λ (k : PlainKey). k.confidentiality_limit) (λ (k : PlainKey). k.integrity_limit) keys) c.keys.ensures in
    lasting _ _ (refusal-made c.args.side c.not.result c.args.own.now c.args.peer.now _ _ _ _ _ _ _ (ap (λ (x : Configured RenoSettings). x.settings) c.config-2.ensures) (ap (λ (x : Configured RenoSettings). x.settings) c.config.ensures) shows lasts read c.first_id.ensures c.not.ensures c.first_id-2.ensures) c.in_ok-end.ensures.lawful

pub returns-in_err-end-clause-refusal : goal.returns-in_err-end-clause-refusal
returns-in_err-end-clause-refusal c =
    let read = ap (λ (bytes : List ℕ). parameters_at bytes) c.deref.ensures.value ∙ c.in_ok-parameters.ensures.read_back in
    let shows = ap (λ (r : Reno). r.window) (first_control c.args.own.now c.config-2.result _ c.config-2.ensures c.from_nanos.ensures) in
    let lasts = ap (λ keys. limits_of (λ (k : PlainKey). k.confidentiality_limit) (λ (k : PlainKey). k.integrity_limit) keys) c.keys.ensures in
    let p = err_from_is_err_and c.from_residual-in_err-end.result c.from_residual-in_err-end.ensures.1 in
    rw (p.1, p.2) (lacks_or_short _ _ _ (refusal-made c.args.side c.not.result c.args.own.now c.args.peer.now _ _ _ _ _ _ _ (ap (λ (x : Configured RenoSettings). x.settings) c.config-2.ensures) (ap (λ (x : Configured RenoSettings). x.settings) c.config.ensures) shows lasts read c.first_id.ensures c.not.ensures c.first_id-2.ensures) c.in_err-end.ensures.refusal)

pub returns-clause-words : goal.returns-clause-words
returns-clause-words c = c.in_ok-end.ensures.random ∙ ap (λ (s : Stream). after_words (words_drawn c.in_ok-end.end.end) s) c.of.ensures

pub returns-clause-keys : goal.returns-clause-keys
returns-clause-keys c = c.in_ok-end.ensures.keys ∙ c.keys.ensures
