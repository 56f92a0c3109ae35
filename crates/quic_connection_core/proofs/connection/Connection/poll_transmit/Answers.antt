use Rattle.std.proofs.Common.{◌≡◌, ◌++◌, ◌-◌, Option, Some, None, refl, sym, ap, ◌∙◌, subst}
use Rattle.std.specs.Prelude.{OnOk, OnErr}
use Rattle.quic_wire.specs.Value.{FrameValue}
use Rattle.quic_congestion.specs.Congestion.{after_calls}
use Rattle.quic_machine.specs.declared.answers.State.TheVariants as states
use Rattle.quic_machine.specs.Closing.{ticked}
use Rattle.quic_machine.specs.End.{End, policy_of, with_end, with_closing, words_drawn}
use Rattle.quic_machine.specs.Validation.{with_blocked, is_blocked}
use Rattle.quic_machine.specs.Lacking.{PollTakes}
use Rattle.quic_machine.specs.Policy.{Policy}
use Rattle.quic_machine.specs.Poll.{Polled, close_to_go, closes, closes_if, polled, told_polled}
use Rattle.quic_connection_parts.specs.Drawn.{words_of, after_words}
use Rattle.quic_connection_parts.specs.Given.{given_bytes}
use Rattle.quic_connection_core.proofs.Polls.{polled_repeats}
use Rattle.quic_connection_core.proofs.connection.Connection.poll_transmit.Goals as goal

-- ---- an open end

pub returns-in-Open-clause-answer : goal.returns-in-Open-clause-answer
returns-in-Open-clause-answer g c =
    let read = c.read_blocked.ensures ∙ ap (λ w. with_end w (with_blocked w.end (is_blocked w.end w.heard))) c.read_window.ensures in
    subst (λ w. OnOk c.poll_open.result (c.poll_open.result ≡ (polled (policy_of g.H.HeaderKey.protection g.K.PacketKey.aead g.K.PacketKey.seal_limit g.K.PacketKey.refusal_limit (words_of g.R.Rng.stream) w) w.end c.args.now).answer)) read c.poll_open.ensures.answer

pub returns-in-Open-clause-end : goal.returns-in-Open-clause-end
returns-in-Open-clause-end g c =
    let read = c.read_blocked.ensures ∙ ap (λ w. with_end w (with_blocked w.end (is_blocked w.end w.heard))) c.read_window.ensures in
    subst (λ w. OnOk c.poll_open.result (c.poll_open.new.self.end ≡ (polled (policy_of g.H.HeaderKey.protection g.K.PacketKey.aead g.K.PacketKey.seal_limit g.K.PacketKey.refusal_limit (words_of g.R.Rng.stream) w) w.end c.args.now).end)) read c.poll_open.ensures.end

pub returns-in-Open-clause-control : goal.returns-in-Open-clause-control
returns-in-Open-clause-control g c =
    let read = c.read_blocked.ensures ∙ ap (λ w. with_end w (with_blocked w.end (is_blocked w.end w.heard))) c.read_window.ensures in
    subst (λ w. OnOk c.poll_open.result (c.poll_open.new.self.control ≡ after_calls g.C.Controller.steps w.control (told_polled (policy_of g.H.HeaderKey.protection g.K.PacketKey.aead g.K.PacketKey.seal_limit g.K.PacketKey.refusal_limit (words_of g.R.Rng.stream) w) w.end c.args.now))) read c.poll_open.ensures.control

pub returns-in-Open-clause-random : goal.returns-in-Open-clause-random
returns-in-Open-clause-random g c =
    let read = c.read_blocked.ensures ∙ ap (λ w. with_end w (with_blocked w.end (is_blocked w.end w.heard))) c.read_window.ensures in
    subst (λ w. OnOk c.poll_open.result (g.R.Rng.stream c.poll_open.new.self.random ≡ after_words (words_drawn c.poll_open.new.self.end - words_drawn w.end) (g.R.Rng.stream w.random))) read c.poll_open.ensures.random

pub returns-in-Open-clause-datagram : goal.returns-in-Open-clause-datagram
returns-in-Open-clause-datagram g c =
    let read = c.read_blocked.ensures ∙ ap (λ w. with_end w (with_blocked w.end (is_blocked w.end w.heard))) c.read_window.ensures in
    subst (λ w. OnOk c.poll_open.result (c.poll_open.new.out.items ≡ c.args.out.now.items ++ given_bytes (polled (policy_of g.H.HeaderKey.protection g.K.PacketKey.aead g.K.PacketKey.seal_limit g.K.PacketKey.refusal_limit (words_of g.R.Rng.stream) w) w.end c.args.now).datagram)) read c.poll_open.ensures.datagram

pub returns-in-Open-clause-lacking : goal.returns-in-Open-clause-lacking
returns-in-Open-clause-lacking g c =
    let read = c.read_blocked.ensures ∙ ap (λ w. with_end w (with_blocked w.end (is_blocked w.end w.heard))) c.read_window.ensures in
    subst (λ w. OnErr c.poll_open.result (PollTakes (policy_of g.H.HeaderKey.protection g.K.PacketKey.aead g.K.PacketKey.seal_limit g.K.PacketKey.refusal_limit (words_of g.R.Rng.stream) w) w.end c.args.now)) read c.poll_open.ensures.lacking

-- ---- an end that is closing

-- it stays so, whether its close goes or not
closes_stay : (p : Policy) (e : End) → (closes p e).end.closing.state ≡ e.closing.state
closes_stay p e = go (close_to_go p e)
  where
    go : (o : Option FrameValue) → (closes_if o p e).end.closing.state ≡ e.closing.state
    go None = refl
    go (Some f) = refl

pub returns-in-Closing-state-clause-answer : goal.returns-in-Closing-state-clause-answer
returns-in-Closing-state-clause-answer g c =
    let read = c.read_blocked.ensures ∙ ap (λ w. with_end w (with_blocked w.end (is_blocked w.end w.heard))) c.read_window.ensures in
    let x = c.read_blocked.new.self in
    let p = policy_of g.H.HeaderKey.protection g.K.PacketKey.aead g.K.PacketKey.seal_limit g.K.PacketKey.refusal_limit (words_of g.R.Rng.stream) x in
    let closing : x.end.closing.state ≡ states.Closing = sym c.state-2.ensures.state ∙ c.in-Closing-state.is in
    subst (λ w. OnOk c.poll_closing.result (c.poll_closing.result ≡ (polled (policy_of g.H.HeaderKey.protection g.K.PacketKey.aead g.K.PacketKey.seal_limit g.K.PacketKey.refusal_limit (words_of g.R.Rng.stream) w) w.end c.args.now).answer)) read
    (subst (λ (q : Polled). OnOk c.poll_closing.result (c.poll_closing.result ≡ q.answer)) (sym (polled_repeats p x.end c.args.now closing)) c.poll_closing.ensures.answer)

pub returns-in-Closing-state-clause-silent : goal.returns-in-Closing-state-clause-silent
returns-in-Closing-state-clause-silent g c none opened =
    let x = c.read_blocked.new.self in
    let p = policy_of g.H.HeaderKey.protection g.K.PacketKey.aead g.K.PacketKey.seal_limit g.K.PacketKey.refusal_limit (words_of g.R.Rng.stream) x in
    let e : End = with_closing x.end (ticked x.end.closing c.args.now) in
    let closing : x.end.closing.state ≡ states.Closing = sym c.state-2.ensures.state ∙ c.in-Closing-state.is in
    let left = subst (λ r. OnOk r (c.poll_closing.new.self.end ≡ (closes p e).end)) none c.poll_closing.ensures.end in
    let clash : states.Closing ≡ states.Open = sym (ap (λ (y : End). y.closing.state) left ∙ closes_stay p e ∙ closing) ∙ opened in
    absurd cc
