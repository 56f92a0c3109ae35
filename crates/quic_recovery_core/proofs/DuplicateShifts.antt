-- The bits of a window that is shifted.
use Rattle.std.proofs.Common.{◌≡◌, ℕ, ◌+◌, ◌-◌, ◌*◌, ◌/◌, ◌%◌, ◌^◌, ◌≤◌, ◌<◌, sym, ap, ◌∙◌, arith}
use Rattle.std.specs.Int.{bit_at}
use Rattle.std.proofs.lemmas.Nat.{pow_pos}
use Rattle.std.proofs.lemmas.Nat.Bits.{bit_at_cat_low, bit_at_cat_high, bit_at-zero}

-- the low bits stay where the rest is cut off
mod_bit : (x w i : ℕ) → i < w → bit_at (x % 2 ^ w) i ≡ bit_at x i
mod_bit x w i lt =
    let whole : x / 2 ^ w * 2 ^ w + x % 2 ^ w ≡ x = grind arith in
    sym (bit_at_cat_low (x / 2 ^ w) w (x % 2 ^ w) i lt) ∙ ap (λ (n : ℕ). bit_at n i) whole

shl_low : (x k i : ℕ) → i < k → bit_at (x * 2 ^ k) i ≡ 0
shl_low x k i lt =
    let e : x * 2 ^ k ≡ x * 2 ^ k + 0 = omega arith in
    ap (λ (n : ℕ). bit_at n i) e ∙ bit_at_cat_low x k 0 i lt ∙ bit_at-zero i

shl_high : (x k i : ℕ) → k ≤ i → bit_at (x * 2 ^ k) i ≡ bit_at x (i - k)
shl_high x k i le =
    let e : x * 2 ^ k ≡ x * 2 ^ k + 0 = omega arith in
    ap (λ (n : ℕ). bit_at n i) e ∙ bit_at_cat_high x k 0 i (pow_pos k) le

-- a window of so many bits is shifted by one, and then by more
pub shifted_low : (window w steps i : ℕ) → i < w → i < steps → bit_at ((window * 2 ^ 1 % 2 ^ w) * 2 ^ steps % 2 ^ w) i ≡ 0
shifted_low window w steps i small lt = mod_bit ((window * 2 ^ 1 % 2 ^ w) * 2 ^ steps) w i small ∙ shl_low (window * 2 ^ 1 % 2 ^ w) steps i lt

pub shifted_high : (window w steps i : ℕ) → i < w → steps < i → bit_at ((window * 2 ^ 1 % 2 ^ w) * 2 ^ steps % 2 ^ w) i ≡ bit_at window (i - (steps + 1))
shifted_high window w steps i small lt =
    let p : i - steps - 1 ≡ i - (steps + 1) = omega arith in
    mod_bit ((window * 2 ^ 1 % 2 ^ w) * 2 ^ steps) w i small ∙ shl_high (window * 2 ^ 1 % 2 ^ w) steps i (omega (arith, lt))
    ∙ mod_bit (window * 2 ^ 1) w (i - steps) (omega (arith, small)) ∙ shl_high window 1 (i - steps) (omega (arith, lt)) ∙ ap (λ (n : ℕ). bit_at window n) p
