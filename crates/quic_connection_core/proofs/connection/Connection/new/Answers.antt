use Rattle.std.proofs.Common.{rules, ◌≡◌, ◌≤◌, ◌-◌, ◌*◌, ◌++◌, ◌||◌, ℕ, Bool, true, false, nat_lt, Option, length, refl, sym, ap, subst, ◌∙◌, arith}
use Rattle.std.specs.Prelude.{Ok, None, Some, IfSome, ◌==◌, min, not, if◌then◌else◌}
use Rattle.std.proofs.lemmas.Bool.{ltb-false}
use Rattle.quic_parameters.specs.ParametersRead.{parameters_at}
use Rattle.quic_parameters.specs.declared.transport_parameters.id.TransportParameterId.TheVariants.{ActiveConnectionIdLimit}
use Rattle.quic_config.specs.Configs.{SearchSettings}
use Rattle.quic_config.specs.Transport.{TransportSettings, transport_of, first_mtu}
use Rattle.quic_congestion.specs.Congestion.{HasRoom}
use Rattle.quic_congestion.specs.Search.{Discovery}
use Rattle.quic_congestion.specs.SearchBounds.{IsSized}
use Rattle.quic_congestion.proofs.SizedSearch.{sized_first}
use Rattle.quic_machine.specs.declared.answers.ConfigError.TheVariants as config_errors
use Rattle.quic_machine.specs.End.{most_payload, are_sizes_wrong, is_window_small, are_keys_short, is_sample_wrong, limits_of, new_end, words_drawn}
use Rattle.quic_recovery_core.specs.AckFrequency.{initial_frequency}
use Rattle.quic_machine.specs.Ids.{first_ids, most_ids, later_numbers, drawn_ids, words_behind, words_of_id}
use Rattle.quic_retransmits.specs.Retransmits.{Retransmits, nothing_waits}
use Rattle.quic_connection_parts.specs.Telling.{IsTold, IsRoomy, windows_at}
use Rattle.quic_connection_parts.specs.Drawn.{words_of, after_words}
use Rattle.quic_connection_parts.proofs.Issued.{words_after}
use Rattle.quic_connection_core.proofs.Made.{of_first_parts, is_new, draws_all}
use Rattle.quic_machine.specs.PathLaws.{size_by}
use Rattle.quic_connection_parts.proofs.Flights.{none_in_flight}
use Rattle.quic_connection_core.proofs.connection.Connection.new.Given.{Over}
use Rattle.quic_connection_core.proofs.connection.Connection.new.Goals as goal

-- where nothing refuses an end, its sizes can be, and its window holds two datagrams
none_refused : (ids sizes window keys sample : Bool)
    → (if ids then Some config_errors.IdLength else (if sizes then Some config_errors.Size else (if window then Some config_errors.Window else (if keys then Some config_errors.KeyLimit else (if sample then Some config_errors.FirstSample else None))))) ≡ None
    → (sizes ≡ false) × (window ≡ false)
none_refused true sizes window keys sample is = absurd cc
none_refused false true window keys sample is = absurd cc
none_refused false false true keys sample is = absurd cc
none_refused false false false keys sample is = (refl, refl)

last_none : (a b c : Bool) → a || b || c ≡ false → c ≡ false
last_none true b c is = absurd cc
last_none false true c is = absurd cc
last_none false false c is = is

pub invariant_of-connection : goal.invariant_of-connection
invariant_of-connection g c =
    let made = c.path.view_is ∙ c.first_path-path.ensures in
    let flight = ap (λ p. p.in_flight) made in
    let t = c.transport-transport.result in
    let theirs = c.in-Ok.theirs in
    let limit = theirs.max_udp_payload_size in
    let settings = c.args.config.now.settings in
    let first : 1200 ≤ first_mtu t = c.get_initial_mtu-first.ensures.bound in
    let size = ap (λ p. p.discovery.size) made ∙ ap (λ (n : ℕ). min n limit) (size_by t.mtu_discovery_config (first_mtu t) t.min_mtu) in
    let none : c.refusal.result ≡ None = search rules in
    let fits = none_refused (not (length c.args.own_id == 8) || (length c.args.peer_id == 0)) (are_sizes_wrong settings theirs) (is_window_small settings c.window-window.result) (are_keys_short (limits_of g.K.PacketKey.seal_limit g.K.PacketKey.refusal_limit c.args.keys)) (is_sample_wrong settings.first_sample)
    (sym (c.refusal.ensures settings (sym c.transport-transport.ensures)) ∙ none) in
    let wrong : are_sizes_wrong settings theirs ≡ false = fits.0 in
    let floor : settings.min_mtu ≤ limit = ltb-false limit settings.min_mtu (last_none (nat_lt most_payload settings.initial_mtu) (nat_lt most_payload settings.min_mtu) (nat_lt limit settings.min_mtu) wrong) in
    let within : t.min_mtu ≤ limit = subst (λ (x : TransportSettings). x.min_mtu ≤ limit) (sym c.transport-transport.ensures) floor in
    let steps : IfSome t.mtu_discovery_config (λ s. 2 ≤ s.least_change) = subst (λ (o : Option SearchSettings). IfSome o (λ s. 2 ≤ s.least_change)) c.get_mtu_discovery_config-search.ensures.value c.get_mtu_discovery_config-search.ensures.steps in
    let sized : IsSized 1200 limit c.path.inside.mtud = subst (λ (d : Discovery). IsSized 1200 limit d) (sym (ap (λ p. p.discovery) made)) (sized_first 1200 limit t first c.get_min_mtu-least.ensures.bound within steps) in
    let two : 2 * first_mtu t ≤ c.window-window.result = subst (λ (x : TransportSettings). 2 * first_mtu x ≤ c.window-window.result) (sym c.transport-transport.ensures) (ltb-false c.window-window.result (2 * first_mtu (transport_of settings)) fits.1) in
    let room : HasRoom (first_mtu t) c.window-window.result = record {
      sized = omega (arith, c.get_initial_mtu-first.ensures.value, c.get_initial_mtu-first.type_inv);
      room = two;
    } in
    let window : 2400 ≤ c.window-window.result = omega (arith, first, two) in
    let built = g.met.F.ControllerFactory.built_for_size c.factory.result.now c.args.now (first_mtu t) in
    let shown : g.C.Controller.size_of c.path.inside.congestion ≡ first_mtu t = ap (λ p. g.C.Controller.size_of p.congestion) made ∙ built in
    let shows : HasRoom (first_mtu t) (g.C.Controller.window_of c.path.inside.congestion) = subst (λ (k : ℕ). HasRoom (first_mtu t) k) c.window-window.ensures room in
    let told : IsTold g.C.Controller.size_of g.C.Controller.window_of c.path.inside.mtud.size c.path.inside.congestion = record {
      size = omega (arith, size, shown);
      room = subst (λ (k : ℕ). HasRoom k (g.C.Controller.window_of c.path.inside.congestion)) (sym shown) shows;
    } in
    (c.negotiate_max_idle_timeout.ensures, search rules, record { sized = sized; told = told; window = window }, rw (flight, c.new-3.ensures) (none_in_flight _ _), omega (arith, ap (λ p. p.generation) made), ap (λ f. f.next) c.new-4.ensures, omega arith)

pub returns-clause-roomy : goal.returns-clause-roomy
returns-clause-roomy g c =
    let made = c.path.view_is ∙ c.first_path-path.ensures in
    let t = c.transport-transport.result in
    let settings = c.args.config.now.settings in
    let none : c.refusal.result ≡ None = search rules in
    let fits = none_refused (not (length c.args.own_id == 8) || (length c.args.peer_id == 0)) (are_sizes_wrong settings c.in-Ok.theirs) (is_window_small settings c.window-window.result) (are_keys_short (limits_of g.K.PacketKey.seal_limit g.K.PacketKey.refusal_limit c.args.keys)) (is_sample_wrong settings.first_sample)
    (sym (c.refusal.ensures settings (sym c.transport-transport.ensures)) ∙ none) in
    let two : 2 * first_mtu t ≤ c.window-window.result = subst (λ (x : TransportSettings). 2 * first_mtu x ≤ c.window-window.result) (sym c.transport-transport.ensures) (ltb-false c.window-window.result (2 * first_mtu (transport_of settings)) fits.1) in
    let room : HasRoom (first_mtu t) c.window-window.result = record {
      sized = omega (arith, c.get_initial_mtu-first.ensures.value, c.get_initial_mtu-first.type_inv);
      room = two;
    } in
    let built = g.met.F.ControllerFactory.built_for_size c.factory.result.now c.args.now (first_mtu t) in
    let shown : g.C.Controller.size_of c.path.inside.congestion ≡ first_mtu t = ap (λ p. g.C.Controller.size_of p.congestion) made ∙ built in
    subst (λ w. IsRoomy g.C.Controller.size_of g.C.Controller.window_of w.control (first_mtu w.end.transport)) (sym c.validating.ensures.end)
    (record { size = shown; room = subst (λ (k : ℕ). HasRoom (first_mtu t) k) c.window-window.ensures room })

-- why nothing or something refuses it, by the window that its controller begins with
pub returns-clause-lawful : goal.returns-clause-lawful
returns-clause-lawful g c =
    let settings = c.args.config.now.settings in
    let read : parameters_at c.args.peer_parameters.now ≡ Ok c.in-Ok.theirs = search rules in
    let none : c.refusal.result ≡ None = search rules in
    let shown = c.window-window.ensures ∙ ap (λ p. g.C.Controller.window_of p.congestion) (c.path.view_is ∙ c.first_path-path.ensures)
    ∙ ap (λ f. g.C.Controller.window_of (g.F.ControllerFactory.built f c.args.now (first_mtu c.transport-transport.result))) c.factory.ensures
    ∙ ap (λ t. g.C.Controller.window_of (g.F.ControllerFactory.built c.args.config.now.factory c.args.now (first_mtu t))) c.transport-transport.ensures in
    rw (← shown) (rw read (sym (c.refusal.ensures settings (sym c.transport-transport.ensures)) ∙ none))

pub returns-in-Some-clause-refusal : goal.returns-in-Some-clause-refusal
returns-in-Some-clause-refusal g c = λ other.
    let settings = c.args.config.now.settings in
    let read : parameters_at c.args.peer_parameters.now ≡ Ok c.in-Ok.theirs = search rules in
    let some : c.refusal.result ≡ Some c.in-Some.error = search rules in
    let shown = c.window-window.ensures ∙ ap (λ p. g.C.Controller.window_of p.congestion) (c.path.view_is ∙ c.first_path-path.ensures)
    ∙ ap (λ f. g.C.Controller.window_of (g.F.ControllerFactory.built f c.args.now (first_mtu c.transport-transport.result))) c.factory.ensures
    ∙ ap (λ t. g.C.Controller.window_of (g.F.ControllerFactory.built c.args.config.now.factory c.args.now (first_mtu t))) c.transport-transport.ensures in
    rw (← shown) (rw read (sym some ∙ c.refusal.ensures settings (sym c.transport-transport.ensures)))

pub new-requires : goal.new-requires
new-requires g c = subst (λ (k : ℕ). 2 ≤ k) (sym (ap (λ p. p.active_connection_id_limit) c.theirs.view_is)) (c.in-Ok.ensures.spelled.1.each ActiveConnectionIdLimit).0

pub returns-in_default-new-clause-refusal : goal.returns-in_default-new-clause-refusal
returns-in_default-new-clause-refusal g c = λ other. absurd (other refl)

-- the end that is made, and the words of its random source that it has drawn
begun : (g : Over) (c : goal.After-validating g)
    → (c.validating.result.end ≡ new_end c.args.side c.args.config.now.settings (windows_at g.C.Controller.initial_of g.C.Controller.window_of c.validating.result.control) c.in-Ok.theirs c.args.own_id c.args.peer_id c.args.remote c.args.now c.args.validated (words_of g.R.Rng.stream c.args.random))
    × (g.R.Rng.stream c.validating.result.random ≡ after_words (words_drawn c.validating.result.end) (g.R.Rng.stream c.args.random))
begun g c =
    let stream = g.R.Rng.stream in
    let first = c.args.random in
    let settings = c.args.config.now.settings in
    let theirs = c.in-Ok.theirs in
    let n : ℕ = theirs.active_connection_id_limit in
    let r = c.first_filter-filter.new.random in
    let controller = g.F.ControllerFactory.built c.factory.result.now c.args.now (first_mtu c.transport-transport.result) in
    let made = c.path.view_is ∙ c.first_path-path.ensures in
    let limit : c.theirs.inside.active_connection_id_limit ≡ n = ap (λ p. p.active_connection_id_limit) c.theirs.view_is in
    let left = subst (λ (k : ℕ). stream c.new.new.random ≡ after_words (words_of_id * (most_ids k - 1)) (stream r)) limit c.in-Ok-new.ensures.random in
    let words : words_of stream r ≡ words_behind 1 (words_of stream first) = sym (words_after stream first r 1 c.first_filter-filter.ensures.random) in
    let ids : c.in-Ok-new.ids ≡ first_ids c.args.own_id c.args.peer_id (most_ids n) c.args.now (words_behind 1 (words_of stream first)) =
    c.in-Ok-new.ensures.ids
    ∙ ap (λ (k : ℕ). first_ids c.args.own_id c.args.peer_id (most_ids k) c.args.now (words_of stream r)) limit
    ∙ ap (λ (f : ℕ → ℕ). first_ids c.args.own_id c.args.peer_id (most_ids n) c.args.now f) words in
    let frames : c.new.new.pending ≡ record nothing_waits { new_cids = drawn_ids (words_behind 1 (words_of stream first)) (later_numbers (most_ids n)) } =
    c.in-Ok-new.ensures.waits
    ∙ ap (λ (p : Retransmits). record p { new_cids = p.new_cids ++ drawn_ids (words_of stream r) (later_numbers (most_ids c.theirs.inside.active_connection_id_limit)) }) c.first_streams-streams.ensures.pending
    ∙ ap (λ (k : ℕ). record nothing_waits { new_cids = drawn_ids (words_of stream r) (later_numbers (most_ids k)) }) limit
    ∙ ap (λ (f : ℕ → ℕ). record nothing_waits { new_cids = drawn_ids f (later_numbers (most_ids n)) }) words in
    let streams = c.first_streams-streams.ensures.state settings (sym c.transport-transport.ensures) in
    let asked : c.new-4.result ≡ initial_frequency (theirs.max_ack_delay * 1000000) = c.new-4.ensures ∙ ap initial_frequency c.told_ack_delay.ensures in
    let silent = of_first_parts g.C.Controller.initial_of g.C.Controller.window_of controller c.args.side settings theirs c.args.own_id c.args.peer_id c.args.remote c.args.now c.args.validated (words_of stream first)
    c.new-2.result c.in-Ok-new.ids c.new-3.result c.first_filter-filter.result c.new-4.result c.default.result _ c.window-window.result c.transport-transport.result c.first_streams-streams.result.state c.new.new.pending c.new-5.result c.new-6.result
    c.new-2.ensures ids c.new-3.ensures c.first_filter-filter.ensures.value asked c.default.ensures c.window-window.ensures made c.transport-transport.ensures streams frames c.new-5.ensures c.new-6.ensures in
    let windows = windows_at g.C.Controller.initial_of g.C.Controller.window_of controller in
    let control : c.validating.result.control ≡ controller = ap (λ w. w.control) c.validating.ensures.end ∙ ap (λ p. p.congestion) made in
    let asks = c.validating.ensures.end in
    let one = c.first_filter-filter.ensures.random in (
      is_new stream first c.args.side settings windows theirs c.args.own_id c.args.peer_id c.args.remote c.args.now c.args.validated _ c.validating.result asks silent r one left
          ∙ sym (ap (λ k. new_end c.args.side settings (windows_at g.C.Controller.initial_of g.C.Controller.window_of k) theirs c.args.own_id c.args.peer_id c.args.remote c.args.now c.args.validated (words_of stream first)) control),
      draws_all stream first c.args.side settings windows theirs c.args.own_id c.args.peer_id c.args.remote c.args.now c.args.validated _ c.validating.result asks silent r one left c.validating.ensures.random,
    )

pub returns-clause-random : goal.returns-clause-random
returns-clause-random g c = (begun g c).1

pub returns-clause-made : goal.returns-clause-made
returns-clause-made g c =
    let read : parameters_at c.args.peer_parameters.now ≡ Ok c.in-Ok.theirs = search rules in
    rw read (begun g c).0
