use Rattle.std.proofs.Common.{◌≡◌, ◌<◌, ℕ, List, length, Result, Ok, sym, ap, ◌∙◌, arith}
use Rattle.std.proofs.lemmas.Grind.{common_steps}
use Rattle.quic_wire.specs.declared.frame.FrameError.{FrameError}
use Rattle.quic_wire.proofs.Unpadded.{none_begins, high_begins, typed_begins, untyped_begins, zero_passes}
use Rattle.quic_wire.proofs.frame.unpadded.behind_wide.Goals as goal

pub returns-then-is_empty-clause-none : goal.returns-then-is_empty-clause-none
returns-then-is_empty-clause-none c =
    let none : length c.args.bytes.now ≡ 0 = grind (arith, common_steps) in
    none_begins c.args.bytes.now none

pub returns-then-first-ne0-clause-none : goal.returns-then-first-ne0-clause-none
returns-then-first-ne0-clause-none c = high_begins c.args.bytes.now (λ i. omega (arith, c.type_inv.bytes i)) c.if-first-ne0.true

pub returns-in-Err-clause-none : goal.returns-in-Err-clause-none
returns-in-Err-clause-none c = untyped_begins c.args.bytes.now _ c.in-Err.ensures

pub returns-then-into_inner-eq0-clause-same : goal.returns-then-into_inner-eq0-clause-same
returns-then-into_inner-eq0-clause-same c =
    let some : 0 < length c.args.bytes.now = grind (arith, common_steps) in
    let zero : c.in-Ok.ty ≡ 0 = sym c.into_inner.ensures.value ∙ c.if-into_inner-eq0.true in
    let typed : ℕ → Result (ℕ × List ℕ) FrameError = λ n. Ok (n, c.var_of.new.bytes.now) in
    zero_passes c.args.bytes.now c.var_of.new.bytes.now some (c.in-Ok.ensures ∙ ap typed zero)

pub returns-else-into_inner-eq0-clause-none : goal.returns-else-into_inner-eq0-clause-none
returns-else-into_inner-eq0-clause-none c = typed_begins c.args.bytes.now c.var_of.new.bytes.now c.in-Ok.ty c.in-Ok.ensures (λ is. c.if-into_inner-eq0.false (c.into_inner.ensures.value ∙ is))
