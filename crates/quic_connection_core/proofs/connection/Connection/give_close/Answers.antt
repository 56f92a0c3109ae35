use Rattle.std.proofs.Common.{◌≡◌, ◌++◌, ◌+◌, ◌-◌, ℕ, true, false, List, length, sym, ap, ◌∙◌, subst, arith}
use Rattle.std.specs.Prelude.{IfSome}
use Rattle.std.proofs.lemmas.List.{append-nil}
use Rattle.quic_parameters.specs.declared.transport_parameters.id.TransportParameterId.TheVariants.{MaxUdpPayloadSize}
use Rattle.quic_congestion.specs.Search.{Discovery}
use Rattle.quic_congestion.specs.SearchBounds.{IsSized}
use Rattle.quic_machine.specs.Heard.{heard_sent}
use Rattle.quic_machine.specs.Closing.{close_given}
use Rattle.quic_machine.specs.End.{End, policy_of, hearing, with_closing, words_drawn}
use Rattle.quic_machine.specs.Poll.{Polled, closing, draft_as, datagram_of, close_to_go, mark_of}
use Rattle.quic_connection_parts.specs.Drawn.{words_of, after_words}
use Rattle.quic_connection_parts.specs.Given.{given_bytes}
use Rattle.quic_connection_parts.proofs.Closed.{some_is, close_none, close_leaves, close_appends, close_answers}
use Rattle.quic_connection_core.proofs.connection.Connection.give_close.Goals as goal

-- ---- none goes

pub returns-then-not-close_goes-clause-answer : goal.returns-then-not-close_goes-clause-answer
returns-then-not-close_goes-clause-answer g c =
    let w = c.args.self.now in
    let p = policy_of g.H.HeaderKey.protection g.K.PacketKey.aead g.K.PacketKey.seal_limit g.K.PacketKey.refusal_limit (words_of g.R.Rng.stream) w in
    sym (ap (λ (q : Polled). q.answer) (close_none p w.end (sym c.close_goes.ensures ∙ c.if-not-close_goes.true)))

pub returns-then-not-close_goes-clause-end : goal.returns-then-not-close_goes-clause-end
returns-then-not-close_goes-clause-end g c =
    let w = c.args.self.now in
    let p = policy_of g.H.HeaderKey.protection g.K.PacketKey.aead g.K.PacketKey.seal_limit g.K.PacketKey.refusal_limit (words_of g.R.Rng.stream) w in
    sym (ap (λ (q : Polled). q.end) (close_none p w.end (sym c.close_goes.ensures ∙ c.if-not-close_goes.true)))

pub returns-then-not-close_goes-clause-datagram : goal.returns-then-not-close_goes-clause-datagram
returns-then-not-close_goes-clause-datagram g c =
    let w = c.args.self.now in
    let p = policy_of g.H.HeaderKey.protection g.K.PacketKey.aead g.K.PacketKey.seal_limit g.K.PacketKey.refusal_limit (words_of g.R.Rng.stream) w in
    sym (append-nil c.args.out.now.items) ∙ ap (λ (q : Polled). c.args.out.now.items ++ given_bytes q.datagram) (sym (close_none p w.end (sym c.close_goes.ensures ∙ c.if-not-close_goes.true)))

-- ---- memory lacks

pub returns-then-is_err-clause-lacking : goal.returns-then-is_err-clause-lacking
returns-then-is_err-clause-lacking g c =
    let w = c.args.self.now in
    let p = policy_of g.H.HeaderKey.protection g.K.PacketKey.aead g.K.PacketKey.seal_limit g.K.PacketKey.refusal_limit (words_of g.R.Rng.stream) w in
    some_is (close_to_go p w.end) (sym c.close_goes.ensures ∙ c.if-not-close_goes.false)

pub returns-then-is_err-clause-control : goal.returns-then-is_err-clause-control
returns-then-is_err-clause-control g c = c.fail.ensures.control

-- ---- one goes

pub put_close-size-requires-clause-goes : goal.put_close-size-requires-clause-goes
put_close-size-requires-clause-goes g c =
    let w = c.args.self.now in
    let p = policy_of g.H.HeaderKey.protection g.K.PacketKey.aead g.K.PacketKey.seal_limit g.K.PacketKey.refusal_limit (words_of g.R.Rng.stream) w in
    some_is (close_to_go p w.end) (sym c.close_goes.ensures ∙ c.if-not-close_goes.false)

pub returns-clause-answer : goal.returns-clause-answer
returns-clause-answer g c =
    let w = c.args.self.now in
    let p = policy_of g.H.HeaderKey.protection g.K.PacketKey.aead g.K.PacketKey.seal_limit g.K.PacketKey.refusal_limit (words_of g.R.Rng.stream) w in
    let goes = some_is (close_to_go p w.end) (sym c.close_goes.ensures ∙ c.if-not-close_goes.false) in
    let out : List ℕ = c.put_close-size.new.out.items in
    let front : List ℕ = c.args.out.now.items in
    let put = subst (λ (l : List ℕ). IfSome (close_to_go p w.end) (λ f. out ≡ l ++ datagram_of p (draft_as (closing f) w.end))) c.reserve.ensures.items c.put_close-size.ensures.items in
    let after = c.put_close-size.new.out.ok.0 in
    let before = c.reserve.new.self.ok.0 in
    let same = ap length c.reserve.ensures.items in
    let more = c.put_close-size.ensures.size in
    let long : length out ≡ length front + c.put_close-size.result = omega (arith, after, before, same, more) in
    let marked = c.mark.ensures ∙ ap (λ x. mark_of x.end.path.marking) c.count_bytes.ensures ∙ ap (λ x. mark_of x.end.path.marking) c.end_close.ensures ∙ ap (λ (e : End). mark_of e.path.marking) c.put_close-size.ensures.end in
    let addressed = c.remote_address.ensures ∙ ap (λ x. x.end.path.remote) c.count_bytes.ensures ∙ ap (λ x. x.end.path.remote) c.end_close.ensures ∙ ap (λ (e : End). e.path.remote) c.put_close-size.ensures.end in
    close_answers g.H.HeaderKey.protection g.K.PacketKey.aead g.K.PacketKey.seal_limit g.K.PacketKey.refusal_limit g.R.Rng.stream w goes front out put c.put_close-size.result c.mark.result c.remote_address.result long marked addressed

pub returns-clause-end : goal.returns-clause-end
returns-clause-end g c =
    let w = c.args.self.now in
    let p = policy_of g.H.HeaderKey.protection g.K.PacketKey.aead g.K.PacketKey.seal_limit g.K.PacketKey.refusal_limit (words_of g.R.Rng.stream) w in
    let goes = some_is (close_to_go p w.end) (sym c.close_goes.ensures ∙ c.if-not-close_goes.false) in
    close_leaves g.H.HeaderKey.protection g.K.PacketKey.aead g.K.PacketKey.seal_limit g.K.PacketKey.refusal_limit g.R.Rng.stream w goes c.count_bytes.new.self.end
    (ap (λ x. x.end) c.count_bytes.ensures ∙ ap (λ x. x.end) c.end_close.ensures ∙ ap (λ (e : End). with_closing e (close_given e.closing)) c.put_close-size.ensures.end)

pub returns-clause-control : goal.returns-clause-control
returns-clause-control g c = ap (λ x. x.control) c.count_bytes.ensures ∙ ap (λ x. x.control) c.end_close.ensures ∙ c.put_close-size.ensures.control

pub returns-clause-keys : goal.returns-clause-keys
returns-clause-keys g c = ap (λ x. x.keys) c.count_bytes.ensures ∙ ap (λ x. x.keys) c.end_close.ensures ∙ c.put_close-size.ensures.keys

pub returns-clause-heard : goal.returns-clause-heard
returns-clause-heard g c = ap (λ x. x.heard) c.count_bytes.ensures ∙ ap (λ x. heard_sent c.put_close-size.result x.heard) c.end_close.ensures ∙ ap (λ h. heard_sent c.put_close-size.result h) c.put_close-size.ensures.heard

pub returns-clause-random : goal.returns-clause-random
returns-clause-random g c =
    let w = c.args.self.now in
    let stream = g.R.Rng.stream in
    let is = c.count_bytes.ensures ∙ ap (λ x. hearing x (heard_sent c.put_close-size.result x.heard)) c.end_close.ensures in
    ap (λ x. stream x.random) is ∙ c.put_close-size.ensures.random ∙ ap (λ (k : ℕ). after_words (k - words_drawn w.end) (stream w.random)) (sym (ap (λ x. words_drawn x.end) is))

pub returns-clause-datagram : goal.returns-clause-datagram
returns-clause-datagram g c =
    let w = c.args.self.now in
    let p = policy_of g.H.HeaderKey.protection g.K.PacketKey.aead g.K.PacketKey.seal_limit g.K.PacketKey.refusal_limit (words_of g.R.Rng.stream) w in
    let goes = some_is (close_to_go p w.end) (sym c.close_goes.ensures ∙ c.if-not-close_goes.false) in
    let out : List ℕ = c.put_close-size.new.out.items in
    let put = subst (λ (l : List ℕ). IfSome (close_to_go p w.end) (λ f. out ≡ l ++ datagram_of p (draft_as (closing f) w.end))) c.reserve.ensures.items c.put_close-size.ensures.items in
    close_appends g.H.HeaderKey.protection g.K.PacketKey.aead g.K.PacketKey.seal_limit g.K.PacketKey.refusal_limit g.R.Rng.stream w goes c.args.out.now.items out put

pub returns-clause-size : goal.returns-clause-size
returns-clause-size g c =
    let w = c.args.self.now in
    let limit = c.self.inside.peer_params.max_udp_payload_size in
    let most = (c.self.invariant.1.each MaxUdpPayloadSize).1 in
    let sized : IsSized 1200 limit w.end.path.discovery = subst (λ (d : Discovery). IsSized 1200 limit d) (ap (λ x. x.end.path.discovery) c.self.view_is) c.self.invariant.2.sized in
    let few = sized.size in
    let within = c.put_close-size.ensures.most in
    omega (arith, most, few, within)
