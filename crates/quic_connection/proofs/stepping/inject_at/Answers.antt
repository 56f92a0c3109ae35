use Rattle.std.proofs.Common.{rules, ◌≡◌, Bool, false, List, ℕ, sym, ap, ◌∙◌}
use Rattle.quic_machine.specs.Arrival.{arriving}
use Rattle.quic_machine.specs.Heard.{is_last}
use Rattle.quic_machine.specs.declared.run.Answer.TheVariants as answers
use Rattle.quic_machine.specs.Machine.{says_last, injected_if, after_injected_if}
use Rattle.quic_machine.specs.Policy.{Policy}
use Rattle.quic_machine.specs.End.{policy_of}
use Rattle.quic_machine.specs.Opens.{would_open}
use Rattle.quic_connection_parts.specs.Drawn.{words_of}
use Rattle.quic_connection.proofs.Windows.{injection_answers, injection_left, injection_told, injection_heard, counted}
use Rattle.quic_connection.proofs.Words.{delivered_goes}
use Rattle.quic_connection.proofs.stepping.inject_at.Goals as goal

pub returns-clause-answer : goal.returns-clause-answer
returns-clause-answer g c =
    let p : Policy = policy_of g.H.HeaderKey.protection g.K.PacketKey.aead g.K.PacketKey.seal_limit g.K.PacketKey.refusal_limit (words_of g.R.Rng.stream) c.args.end.now in
    let old = c.args.end.now in
    let i = c.args.injection.now in
    let d : List ℕ = c.deref_mut-2.result.now in
    let none : would_open p old.end i.remote d ≡ false = search rules in
    let bytes : ◌≡◌ {A = List ℕ} i.bytes d = search rules in
    let shut : would_open p old.end i.remote i.bytes ≡ false = ap (would_open p old.end i.remote) bytes ∙ none in
    let limit : ℕ = g.K.PacketKey.refusal_limit old.keys.packet.remote in
    let last : Bool = is_last limit old.heard in
    let r = c.receive in
    injection_answers g.C.Controller.steps g.C.Controller.window_of p old r.new.self i d last r.result bytes none r.ensures.lacking r.ensures.end r.ensures.answer ∙ sym (ap (λ (b : Bool). injected_if b (says_last (answers.Inject r.result)) p old.end i) shut)

pub returns-clause-end : goal.returns-clause-end
returns-clause-end g c =
    let p : Policy = policy_of g.H.HeaderKey.protection g.K.PacketKey.aead g.K.PacketKey.seal_limit g.K.PacketKey.refusal_limit (words_of g.R.Rng.stream) c.args.end.now in
    let old = c.args.end.now in
    let i = c.args.injection.now in
    let d : List ℕ = c.deref_mut-2.result.now in
    let none : would_open p old.end i.remote d ≡ false = search rules in
    let bytes : ◌≡◌ {A = List ℕ} i.bytes d = search rules in
    let shut : would_open p old.end i.remote i.bytes ≡ false = ap (would_open p old.end i.remote) bytes ∙ none in
    let limit : ℕ = g.K.PacketKey.refusal_limit old.keys.packet.remote in
    let last : Bool = is_last limit old.heard in
    let r = c.receive in
    injection_left g.C.Controller.steps g.C.Controller.window_of p old r.new.self i d last r.result bytes none r.ensures.lacking r.ensures.end r.ensures.answer ∙ sym (ap (λ (b : Bool). after_injected_if b (says_last (answers.Inject r.result)) p old.end i) shut)

pub returns-clause-control : goal.returns-clause-control
returns-clause-control g c =
    let p : Policy = policy_of g.H.HeaderKey.protection g.K.PacketKey.aead g.K.PacketKey.seal_limit g.K.PacketKey.refusal_limit (words_of g.R.Rng.stream) c.args.end.now in
    let old = c.args.end.now in
    let i = c.args.injection.now in
    let d : List ℕ = c.deref_mut-2.result.now in
    let none : would_open p old.end i.remote d ≡ false = search rules in
    let bytes : ◌≡◌ {A = List ℕ} i.bytes d = search rules in
    let shut : would_open p old.end i.remote i.bytes ≡ false = ap (would_open p old.end i.remote) bytes ∙ none in
    let limit : ℕ = g.K.PacketKey.refusal_limit old.keys.packet.remote in
    let last : Bool = is_last limit old.heard in
    let r = c.receive in
    injection_told g.C.Controller.steps g.C.Controller.window_of p old r.new.self i d last r.result bytes none r.ensures.lacking r.ensures.end

pub returns-clause-heard : goal.returns-clause-heard
returns-clause-heard g c =
    let p : Policy = policy_of g.H.HeaderKey.protection g.K.PacketKey.aead g.K.PacketKey.seal_limit g.K.PacketKey.refusal_limit (words_of g.R.Rng.stream) c.args.end.now in
    let old = c.args.end.now in
    let i = c.args.injection.now in
    let d : List ℕ = c.deref_mut-2.result.now in
    let none : would_open p old.end i.remote d ≡ false = search rules in
    let bytes : ◌≡◌ {A = List ℕ} i.bytes d = search rules in
    let shut : would_open p old.end i.remote i.bytes ≡ false = ap (would_open p old.end i.remote) bytes ∙ none in
    let limit : ℕ = g.K.PacketKey.refusal_limit old.keys.packet.remote in
    let last : Bool = is_last limit old.heard in
    let r = c.receive in
    injection_heard g.C.Controller.steps g.C.Controller.window_of p old r.new.self i d last r.result bytes none r.ensures.lacking r.ensures.end

pub returns-clause-openings : goal.returns-clause-openings
returns-clause-openings g c =
    let p : Policy = policy_of g.H.HeaderKey.protection g.K.PacketKey.aead g.K.PacketKey.seal_limit g.K.PacketKey.refusal_limit (words_of g.R.Rng.stream) c.args.end.now in
    let old = c.args.end.now in
    let i = c.args.injection.now in
    let d : List ℕ = c.deref_mut-2.result.now in
    let none : would_open p old.end i.remote d ≡ false = search rules in
    let bytes : ◌≡◌ {A = List ℕ} i.bytes d = search rules in
    let shut : would_open p old.end i.remote i.bytes ≡ false = ap (would_open p old.end i.remote) bytes ∙ none in
    let limit : ℕ = g.K.PacketKey.refusal_limit old.keys.packet.remote in
    let last : Bool = is_last limit old.heard in
    let r = c.receive in
    counted g.C.Controller.steps g.C.Controller.window_of p old r.new.self i.now i.remote i.ecn d limit r.result r.ensures.answer

pub returns-clause-draws : goal.returns-clause-draws
returns-clause-draws g c =
    let p : Policy = policy_of g.H.HeaderKey.protection g.K.PacketKey.aead g.K.PacketKey.seal_limit g.K.PacketKey.refusal_limit (words_of g.R.Rng.stream) c.args.end.now in
    let old = c.args.end.now in
    let i = c.args.injection.now in
    let d : List ℕ = c.deref_mut-2.result.now in
    let none : would_open p old.end i.remote d ≡ false = search rules in
    let bytes : ◌≡◌ {A = List ℕ} i.bytes d = search rules in
    let shut : would_open p old.end i.remote i.bytes ≡ false = ap (would_open p old.end i.remote) bytes ∙ none in
    let limit : ℕ = g.K.PacketKey.refusal_limit old.keys.packet.remote in
    let last : Bool = is_last limit old.heard in
    let r = c.receive in
    delivered_goes g.R.Rng.stream p g.C.Controller.steps g.C.Controller.window_of old r.new.self (arriving i.now i.remote i.ecn last) d r.result r.ensures.end r.ensures.random r.ensures.failed
