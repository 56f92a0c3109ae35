use Rattle.std.proofs.Common.{◌≡◌, Option, Some, None, Result, Ok, Err, OnOk, IsSomeAnd, true, false, refl, sym, ap, rules, ◌∙◌}
use Rattle.std.specs.Result.{is_err}
use Rattle.quic_streams_parts.specs.Events.{Events}
use Rattle.quic_streams_parts.specs.Table.{at}
use Rattle.quic_streams_parts.specs.SendHalf.{SendHalf, is_acked, half_acked}
use Rattle.quic_streams_state.specs.Parts.{Sending}
use Rattle.quic_streams_state.specs.State.{StreamsState, send_done}
use Rattle.quic_streams_state.specs.Sends.{acked_in}
use Rattle.quic_streams_state.proofs.Finishing.{acked_stands, finishes_is, acked_part, acked_all}
use Rattle.quic_streams_state.proofs.state.StreamsState.ack_finished.Goals as goal

-- a half that is in use, and wasn't reset
record Held (o : Option SendHalf) : Type 0 where
  half : SendHalf
  found : o ≡ Some half
  none : half.reset ≡ None

held : (o : Option SendHalf) → IsSomeAnd o (λ h. h.reset ≡ None) → Held o
held None x = absurd x
held (Some h) x = record { half = h; found = refl; none = x }

went : {T E P : Type 0} (r : Result T E) → is_err r ≡ false → OnOk r P → P
went (Ok x) e p = p
went (Err x) e p = absurd (wrong e)
  where
    wrong : true ≡ false → ⊥
    wrong h = cc

pub returns-then-not-is_acked-clause-answer : goal.returns-then-not-is_acked-clause-answer
returns-then-not-is_acked-clause-answer c =
    let x = held (at c.args.self.now.sending.halves.live c.args.frame.now.id) c.requires in
    let told = went c.ack.result (sym c.is_err.ensures.value ∙ c.if-is_err.false) c.ack.ensures.ok in
    let part : c.is_acked.result ≡ false = search rules in
    sym (finishes_is (at c.args.self.now.sending.halves.live c.args.frame.now.id) c.args.frame.now x.half x.found x.none ∙ sym (acked_stands c.args.self.now.sending c.args.frame.now x.half c.ack.new.self x.found told) ∙ sym c.is_acked.ensures ∙ part)

pub returns-then-not-is_acked-clause-ok : goal.returns-then-not-is_acked-clause-ok
returns-then-not-is_acked-clause-ok c = λ p.
    let x = held (at c.args.self.now.sending.halves.live c.args.frame.now.id) c.requires in
    let told = went c.ack.result (sym c.is_err.ensures.value ∙ c.if-is_err.false) c.ack.ensures.ok in
    let part : c.is_acked.result ≡ false = search rules in
    let all : is_acked (half_acked x.half c.args.frame.now) ≡ false = sym (acked_stands c.args.self.now.sending c.args.frame.now x.half c.ack.new.self x.found told) ∙ sym c.is_acked.ensures ∙ part in
    let back = c.take_back-then-not-is_acked.ensures c.args.self.now.events _ c.in_ok-push.ensures.ok in
    ap (λ (n : Sending). record c.args.self.now { sending = n; events = c.take_back-then-not-is_acked.new.self }) told
    ∙ ap (λ (e : Events). record c.args.self.now { sending = acked_in (at c.args.self.now.sending.halves.live c.args.frame.now.id) c.args.self.now.sending c.args.frame.now; events = e }) back
    ∙ sym (acked_part c.args.self.now p c.args.frame.now x.half x.found x.none all)

pub returns-clause-answer : goal.returns-clause-answer
returns-clause-answer c =
    let x = held (at c.args.self.now.sending.halves.live c.args.frame.now.id) c.requires in
    let told = went c.ack.result (sym c.is_err.ensures.value ∙ c.if-is_err.false) c.ack.ensures.ok in
    let whole : c.is_acked.result ≡ true = search rules in
    sym (finishes_is (at c.args.self.now.sending.halves.live c.args.frame.now.id) c.args.frame.now x.half x.found x.none ∙ sym (acked_stands c.args.self.now.sending c.args.frame.now x.half c.ack.new.self x.found told) ∙ sym c.is_acked.ensures ∙ whole)

pub returns-clause-ok : goal.returns-clause-ok
returns-clause-ok c = λ p.
    let x = held (at c.args.self.now.sending.halves.live c.args.frame.now.id) c.requires in
    let told = went c.ack.result (sym c.is_err.ensures.value ∙ c.if-is_err.false) c.ack.ensures.ok in
    let whole : c.is_acked.result ≡ true = search rules in
    let all : is_acked (half_acked x.half c.args.frame.now) ≡ true = sym (acked_stands c.args.self.now.sending c.args.frame.now x.half c.ack.new.self x.found told) ∙ sym c.is_acked.ensures ∙ whole in
    c.send_done.ensures
    ∙ ap (λ (n : Sending). send_done (record c.args.self.now { sending = n; events = c.push.new.self }) c.args.frame.now.id) told
    ∙ ap (λ (e : Events). send_done (record c.args.self.now { sending = acked_in (at c.args.self.now.sending.halves.live c.args.frame.now.id) c.args.self.now.sending c.args.frame.now; events = e }) c.args.frame.now.id) c.in_ok-push.ensures.ok
    ∙ sym (acked_all c.args.self.now p c.args.frame.now x.half x.found x.none all)
