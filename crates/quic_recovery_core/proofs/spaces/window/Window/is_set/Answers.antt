use Rattle.std.proofs.Common.{ℕ, ◌-◌, sym, ap, ◌∙◌, arith}
use Rattle.std.specs.Prelude.{◌==◌}
use Rattle.std.specs.Int.{bit_at}
use Rattle.std.proofs.lemmas.Nat.Bits.{shr_and_one, bit_at_cat_low, bit_at_cat_high}
use Rattle.quic_recovery_core.proofs.spaces.window.Window.is_set.Goals as goal

pub returns-then-place-lt-WORD_BITS : goal.returns-then-place-lt-WORD_BITS
returns-then-place-lt-WORD_BITS c = ap (λ (b : ℕ). b == 1) (
    shr_and_one c.self.inside.low c.args.place
    ∙ sym (bit_at_cat_low c.self.inside.high 128 c.self.inside.low c.args.place (omega arith))
    ∙ ap (λ (w : ℕ). bit_at w c.args.place) c.self.view_is
    )

pub returns-else-place-lt-WORD_BITS : goal.returns-else-place-lt-WORD_BITS
returns-else-place-lt-WORD_BITS c = ap (λ (b : ℕ). b == 1) (
    shr_and_one c.self.inside.high (c.args.place - 128)
    ∙ sym (bit_at_cat_high c.self.inside.high 128 c.self.inside.low c.args.place c.self.invariant (omega arith))
    ∙ ap (λ (w : ℕ). bit_at w c.args.place) c.self.view_is
    )
