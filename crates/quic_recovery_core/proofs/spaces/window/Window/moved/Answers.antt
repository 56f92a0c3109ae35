use Rattle.std.proofs.Common.{◌≡◌, ◌≢◌, ℕ, ◌+◌, ◌-◌, ◌*◌, ◌%◌, ◌^◌, ap, sym, ◌∙◌, arith}
use Rattle.std.proofs.Math.Nat.{mod-eq_of_lt, mul-one}
use Rattle.std.proofs.lemmas.Nat.{mod_below, pow_pos}
use Rattle.std.specs.Int.{bit_at}
use Rattle.quic_recovery_core.proofs.DuplicateShifts.{shifted_low, shifted_high}
use Rattle.quic_recovery_core.proofs.spaces.window.Window.moved.Goals as goal

-- what is shifted by none is as it was
unshifted : (x : ℕ) → x * 2 ^ 1 % 2 ^ 256 * 2 ^ 0 % 2 ^ 256 ≡ x * 2 ^ 1 % 2 ^ 256
unshifted x = ap (λ (w : ℕ). w % 2 ^ 256) (mul-one (x * 2 ^ 1 % 2 ^ 256)) ∙ mod-eq_of_lt (mod_below (x * 2 ^ 1) (2 ^ 256) (pow_pos 256))

pub returns-then-steps-eq0-clause-far : goal.returns-then-steps-eq0-clause-far
returns-then-steps-eq0-clause-far c = λ i small lt. let other : i ≢ 0 = omega arith in
    let zero : c.args.steps ≡ 0 = c.if-steps-eq0.true in
    c.with_bit.ensures.other i other
    ∙ ap (λ (w : ℕ). bit_at w i) (c.shl.ensures ∙ sym (unshifted c.args.self.now))
    ∙ shifted_high c.args.self.now 256 0 i (omega (arith, small)) (omega (arith, lt))
    ∙ ap (λ (n : ℕ). bit_at c.args.self.now (i - (n + 1))) (sym zero)

pub returns-clause-near : goal.returns-clause-near
returns-clause-near c = λ i small lt. let other : i ≢ c.args.steps = omega arith in
    c.with_bit-2.ensures.other i other
    ∙ ap (λ (w : ℕ). bit_at w i) (c.shl-3.ensures ∙ ap (λ (w : ℕ). w * 2 ^ c.args.steps % 2 ^ 256) c.shl-2.ensures)
    ∙ shifted_low c.args.self.now 256 c.args.steps i (omega (arith, small)) lt

pub returns-clause-far : goal.returns-clause-far
returns-clause-far c = λ i small lt. let other : i ≢ c.args.steps = omega arith in
    c.with_bit-2.ensures.other i other
    ∙ ap (λ (w : ℕ). bit_at w i) (c.shl-3.ensures ∙ ap (λ (w : ℕ). w * 2 ^ c.args.steps % 2 ^ 256) c.shl-2.ensures)
    ∙ shifted_high c.args.self.now 256 c.args.steps i (omega (arith, small)) lt
