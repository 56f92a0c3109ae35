use Rattle.std.proofs.Common.{◌≡◌, ℕ, ◌+◌, ◌-◌, ◌*◌, ◌/◌, ◌%◌, ◌^◌, ◌<◌, ap, ◌∙◌, arith}
use Rattle.std.proofs.lemmas.Nat.{shr-shr, mod_below, pow_pos}
use Rattle.quic_recovery_core.proofs.DuplicateWords.{beside, carried, shifted_within, shifted_beyond}
use Rattle.quic_recovery_core.proofs.spaces.window.Window.shl.Goals as goal

-- two shifts to the right are one
twice : (low n : ℕ) → n < 128 → low / 2 / 2 ^ (127 - n) ≡ low / 2 ^ (128 - n)
twice low n small = let e : 1 + (127 - n) ≡ 128 - n = omega arith in shr-shr low 1 (127 - n) ∙ ap (λ (k : ℕ). low / 2 ^ k) e

pub overflow_add-self-inside : goal.overflow_add-self-inside
overflow_add-self-inside c =
    let small : c.args.n < 128 = omega arith in
    let sum : (c.self.inside.high * 2 ^ c.args.n + c.self.inside.low / 2 ^ (128 - c.args.n)) % 2 ^ 128 ≡ c.self.inside.high * 2 ^ c.args.n % 2 ^ 128 + c.self.inside.low / 2 ^ (128 - c.args.n) =
    beside c.self.inside.high c.args.n 128 (c.self.inside.low / 2 ^ (128 - c.args.n)) (omega arith) (carried 128 c.self.inside.low c.args.n c.self.invariant (omega arith)) in
    let below : (c.self.inside.high * 2 ^ c.args.n + c.self.inside.low / 2 ^ (128 - c.args.n)) % 2 ^ 128 < 2 ^ 128 = mod_below (c.self.inside.high * 2 ^ c.args.n + c.self.inside.low / 2 ^ (128 - c.args.n)) (2 ^ 128) (pow_pos 128) in
    let parts : c.self.inside.low / 2 / 2 ^ (127 - c.args.n) ≡ c.self.inside.low / 2 ^ (128 - c.args.n) = twice c.self.inside.low c.args.n small in
    omega (arith, sum, below, parts)

pub returns-then-n-lt-WORD_BITS : goal.returns-then-n-lt-WORD_BITS
returns-then-n-lt-WORD_BITS c =
    ap (λ (q : ℕ). (c.self.inside.high * 2 ^ c.args.n % 2 ^ 128 + q) * 2 ^ 128 + c.self.inside.low * 2 ^ c.args.n % 2 ^ 128) (twice c.self.inside.low c.args.n (omega arith))
    ∙ shifted_within 128 c.self.inside.high c.self.inside.low c.args.n c.self.invariant (omega arith)
    ∙ ap (λ (w : ℕ). w * 2 ^ c.args.n % 2 ^ 256) c.self.view_is

pub returns-else-n-lt-WORD_BITS : goal.returns-else-n-lt-WORD_BITS
returns-else-n-lt-WORD_BITS c =
    let e : c.args.n - 128 + 128 ≡ c.args.n = omega arith in
    shifted_beyond 128 c.self.inside.high c.self.inside.low (c.args.n - 128)
    ∙ ap (λ (k : ℕ). (c.self.inside.high * 2 ^ 128 + c.self.inside.low) * 2 ^ k % 2 ^ 256) e
    ∙ ap (λ (w : ℕ). w * 2 ^ c.args.n % 2 ^ 256) c.self.view_is
