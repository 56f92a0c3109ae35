use Rattle.std.proofs.Common.{◌≡◌, Result, Ok, Err, OnOk, true, false, refl, sym, ap, ◌∙◌}
use Rattle.std.proofs.lemmas.Bool.{eq-eqb, ne_eqb}
use Rattle.std.specs.Result.{is_err}
use Rattle.quic_streams_parts.specs.Events.{Events}
use Rattle.quic_streams_halves.specs.Halves.{with_half}
use Rattle.quic_streams_state.specs.Parts.{Sending}
use Rattle.quic_streams_state.specs.State.{StreamsState}
use Rattle.quic_streams_state.proofs.Raised.{fresh_blocked, fresh_told}
use Rattle.quic_streams_state.proofs.state.StreamsState.add_writable.Goals as goal

on_ok : {T E P Q : Type 0} (r : Result T E) → OnOk r P → (P → Q) → OnOk r Q
on_ok (Ok x) p f = f p
on_ok (Err x) p f = tt

went : {T E P : Type 0} (r : Result T E) → is_err r ≡ false → OnOk r P → P
went (Ok x) e p = p
went (Err x) e p = absurd (wrong e)
  where
    wrong : true ≡ false → ⊥
    wrong h = cc

pub returns-then-room-eq0-clause-ok : goal.returns-then-room-eq0-clause-ok
returns-then-room-eq0-clause-ok c =
    on_ok c.block_fresh.result c.block_fresh.ensures.ok (λ e. ap (λ (x : Sending). record c.args.self.now { sending = x }) e ∙ sym (fresh_blocked c.args.self.now c.args.id c.args.half c.requires.none c.requires.empty c.requires.blocked (eq-eqb _ 0 (sym c.room.ensures ∙ c.if-room-eq0.true))))

pub returns-clause-ok : goal.returns-clause-ok
returns-clause-ok c =
    let told = went c.add.result (sym c.is_err.ensures.value ∙ c.if-is_err.false) c.add.ensures.ok in
    ap (λ (x : Sending). record c.args.self.now { sending = x; events = c.push.new.self }) told
    ∙ ap (λ (x : Events). record c.args.self.now { sending = record c.args.self.now.sending { halves = with_half c.args.self.now.side c.args.self.now.sending.halves c.args.id c.args.half }; events = x }) c.in_ok-push.ensures.ok
    ∙ sym (fresh_told c.args.self.now c.args.id c.args.half c.requires.none c.requires.empty (ne_eqb _ 0 (λ e. c.if-room-eq0.false (c.room.ensures ∙ e))))
