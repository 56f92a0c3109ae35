use Rattle.std.proofs.Common.{◌≡◌, ◌+◌, ◌-◌, ◌≤◌, ◌++◌, arith, List, length, take, drop, ℕ, true, false, sym, ap, ◌∙◌}
use Rattle.quic_packet.specs.Datagram.{protected}
use Rattle.std.specs.Prelude.{Result, Ok, Err, OnOk, is_err, vec_len}
use Rattle.quic_spaces.specs.Numbers.{cut_against}
use Rattle.quic_machine.specs.End.{with_number_given, with_loss_timer, number_of, policy_of, words_drawn}
use Rattle.quic_machine.specs.Idle.{packet_given}
use Rattle.quic_machine.specs.Control.{with_app_limited}
use Rattle.quic_machine.specs.Poll.{draft_left, payload_of, tracked, paid_if, asking, datagram_size, most_of, told_draft}
use Rattle.quic_congestion.specs.Congestion.{after_calls}
use Rattle.quic_connection_parts.specs.Drawn.{words_of, after_words}
use Rattle.quic_connection_parts.specs.Leaving.{leaving_of}
use Rattle.quic_connection_core.proofs.Plain.{sealed_of, sent_of, numbers_near}
use Rattle.quic_connection_core.proofs.Polls.{word_is}
use Rattle.quic_connection_core.proofs.connection.Connection.put_datagram.Goals as goal

on_ok : {T E P : Type 0} (r : Result T E) → is_err r ≡ false → OnOk r P → P
on_ok (Ok x) none p = p
on_ok (Err e) none p = absurd (clash none)
  where
    clash : true ≡ false → ⊥
    clash is = cc

pub returns-clause-items : goal.returns-clause-items
returns-clause-items g c =
    let w = c.args.self.now in
    let e = w.end in
    let z = c.put_tracked.new.self in
    let prot = g.H.HeaderKey.protection in
    let aead = g.K.PacketKey.aead in
    let front : List ℕ = c.args.out.now.items in
    let plain : List ℕ = c.put_tracked.new.out.items in
    let served = sym c.is_err.ensures.value ∙ c.if-is_err.false in
    let ids = on_ok c.put_tracked.result served c.put_tracked.ensures.ids in
    let start : c.len-start.result ≡ length front = c.len-start.ensures ∙ c.args.out.now.ok.0 in
    let seals : c.seal.new.out.items ≡ take (length front) plain ++ protected (prot w.keys.header.local) (aead w.keys.packet.local) (length e.ids.peer.id + 1) (number_of e) (drop (length front) plain)
    = c.seal.ensures.items
    ∙ ap (λ k. take c.len-start.result plain ++ protected (prot k.header.local) (aead k.packet.local) (length z.end.ids.peer.id + 1) c.number-number.result (drop c.len-start.result plain)) c.put_tracked.ensures.keys
    ∙ ap (λ i. take c.len-start.result plain ++ protected (prot w.keys.header.local) (aead w.keys.packet.local) (length i.peer.id + 1) c.number-number.result (drop c.len-start.result plain)) ids
    ∙ ap (λ (n : ℕ). take c.len-start.result plain ++ protected (prot w.keys.header.local) (aead w.keys.packet.local) (length e.ids.peer.id + 1) n (drop c.len-start.result plain)) c.number-number.ensures.value
    ∙ ap (λ (n : ℕ). take n plain ++ protected (prot w.keys.header.local) (aead w.keys.packet.local) (length e.ids.peer.id + 1) (number_of e) (drop n plain)) start in
    sealed_of (prot w.keys.header.local) (aead w.keys.packet.local) (λ s bytes. g.met.H.HeaderKey.keeps_length _ s bytes) (number_of e) (cut_against e.numbers) front e.ids.peer.id plain c.seal.new.out.items (payload_of (draft_left (leaving_of c.args.leaving) e))
    (numbers_near e.filter e.numbers c.requires.number).1 (on_ok c.put_tracked.result served c.put_tracked.ensures.items) seals
    ∙ ap (λ (z : List ℕ). front ++ z) (sent_of (leaving_of c.args.leaving) e c.requires.due (policy_of prot aead g.K.PacketKey.seal_limit g.K.PacketKey.refusal_limit (words_of g.R.Rng.stream) w))

pub returns-clause-end : goal.returns-clause-end
returns-clause-end g c =
    let w = c.args.self.now in
    let d = draft_left (leaving_of c.args.leaving) w.end in
    let left = c.put_tracked.new.self in
    let went : left.end ≡ packet_given (asking d.frames) (paid_if (asking d.frames) (with_number_given (words_of g.R.Rng.stream w.random 0) (tracked d)) (datagram_size d)) = on_ok c.put_tracked.result (sym c.is_err.ensures.value ∙ c.if-is_err.false) c.put_tracked.ensures.end in
    ap (λ x. x.end) c.set_loss_timer.ensures
    ∙ ap (λ x. with_loss_timer (with_app_limited x.end false)) c.self.view_is
    ∙ ap (λ x. with_loss_timer (with_app_limited x false)) went
    ∙ ap (λ (k : ℕ). with_loss_timer (with_app_limited (packet_given (asking d.frames) (paid_if (asking d.frames) (with_number_given k (tracked d)) (datagram_size d))) false)) (sym (word_is (words_of g.R.Rng.stream) w.random (leaving_of c.args.leaving) w.end c.requires.due))

pub returns-clause-control : goal.returns-clause-control
returns-clause-control g c =
    let w = c.args.self.now in
    let told : c.put_tracked.new.self.control ≡ after_calls g.C.Controller.steps w.control (told_draft (draft_left (leaving_of c.args.leaving) w.end)) = on_ok c.put_tracked.result (sym c.is_err.ensures.value ∙ c.if-is_err.false) c.put_tracked.ensures.control in
    ap (λ x. x.control) c.set_loss_timer.ensures ∙ ap (λ x. x.control) c.self.view_is ∙ told

pub returns-clause-heard : goal.returns-clause-heard
returns-clause-heard g c =
    let kept : c.put_tracked.new.self.heard ≡ c.args.self.now.heard = on_ok c.put_tracked.result (sym c.is_err.ensures.value ∙ c.if-is_err.false) c.put_tracked.ensures.heard in
    ap (λ x. x.heard) c.set_loss_timer.ensures ∙ ap (λ x. x.heard) c.self.view_is ∙ kept

pub returns-clause-random : goal.returns-clause-random
returns-clause-random g c =
    let w = c.args.self.now in
    let z = c.put_tracked.new.self in
    let stream = g.R.Rng.stream in
    let drawn : stream z.random ≡ after_words (words_drawn z.end - words_drawn w.end) (stream w.random) = on_ok c.put_tracked.result (sym c.is_err.ensures.value ∙ c.if-is_err.false) c.put_tracked.ensures.random in
    ap (λ x. stream x.random) c.set_loss_timer.ensures
    ∙ ap (λ x. stream x.random) c.self.view_is
    ∙ drawn
    ∙ sym (ap (λ x. after_words (words_drawn x.end - words_drawn w.end) (stream w.random)) c.set_loss_timer.ensures ∙ ap (λ x. after_words (words_drawn x.end - words_drawn w.end) (stream w.random)) c.self.view_is)

pub returns-clause-most : goal.returns-clause-most
returns-clause-most g c =
    let within : vec_len c.put_tracked.new.out + 16 ≤ vec_len c.args.out.now + most_of (leaving_of c.args.leaving) c.args.self.now.end = on_ok c.put_tracked.result (sym c.is_err.ensures.value ∙ c.if-is_err.false) c.put_tracked.ensures.within in
    let sealed = c.seal.ensures.len in
    let first = c.len-start.ensures in
    let last = c.len.ensures in
    omega (arith, within, sealed, first, last)
