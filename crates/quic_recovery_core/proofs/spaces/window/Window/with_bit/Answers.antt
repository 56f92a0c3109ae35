use Rattle.std.proofs.Common.{ℕ, ◌-◌, ◌*◌, ◌%◌, ◌^◌, ap, ◌∙◌, arith}
use Rattle.std.specs.Prelude.{bit_or}
use Rattle.std.specs.Int.{bit_at, w128}
use Rattle.std.proofs.lemmas.Nat.Bits.{bit_at_cat_low, bit_at_cat_high, bit_at_set_same, bit_at_set_other}
use Rattle.quic_recovery_core.proofs.DuplicateWords.{set_fits, low_changes, high_changes}
use Rattle.quic_recovery_core.proofs.spaces.window.Window.with_bit.Goals as goal

pub returns-then-place-lt-WORD_BITS-clause-same : goal.returns-then-place-lt-WORD_BITS-clause-same
returns-then-place-lt-WORD_BITS-clause-same c =
    bit_at_cat_low c.self.inside.high 128 (bit_or c.self.inside.low (1 * 2 ^ c.args.place % 2 ^ 128)) c.args.place (omega arith)
    ∙ bit_at_set_same w128 c.self.inside.low c.args.place (omega arith)

pub returns-then-place-lt-WORD_BITS-clause-other : goal.returns-then-place-lt-WORD_BITS-clause-other
returns-then-place-lt-WORD_BITS-clause-other c = λ i other.
    low_changes 128 c.self.inside.low (bit_or c.self.inside.low (1 * 2 ^ c.args.place % 2 ^ 128)) c.self.inside.high c.args.place c.self.invariant
    (set_fits c.self.inside.low c.args.place c.self.invariant) (bit_at_set_other w128 c.self.inside.low c.args.place (omega arith)) i other
    ∙ ap (λ (w : ℕ). bit_at w i) c.self.view_is

pub returns-else-place-lt-WORD_BITS-clause-same : goal.returns-else-place-lt-WORD_BITS-clause-same
returns-else-place-lt-WORD_BITS-clause-same c =
    bit_at_cat_high (bit_or c.self.inside.high (1 * 2 ^ (c.args.place - 128) % 2 ^ 128)) 128 c.self.inside.low c.args.place c.self.invariant (omega arith)
    ∙ bit_at_set_same w128 c.self.inside.high (c.args.place - 128) (omega arith)

pub returns-else-place-lt-WORD_BITS-clause-other : goal.returns-else-place-lt-WORD_BITS-clause-other
returns-else-place-lt-WORD_BITS-clause-other c = λ i other.
    high_changes 128 c.self.inside.low c.self.inside.high (bit_or c.self.inside.high (1 * 2 ^ (c.args.place - 128) % 2 ^ 128)) c.args.place c.self.invariant (omega arith)
    (bit_at_set_other w128 c.self.inside.high (c.args.place - 128) (omega arith)) i other
    ∙ ap (λ (w : ℕ). bit_at w i) c.self.view_is
