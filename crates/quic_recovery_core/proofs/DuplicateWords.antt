-- The window as two words: which word a bit stands in, and how bits go from one to the other.
use Rattle.std.proofs.Common.{◌≡◌, ◌≢◌, ℕ, ◌+◌, ◌-◌, ◌*◌, ◌/◌, ◌%◌, ◌^◌, ◌≤◌, ◌<◌, inl, inr, sym, subst, ap, ap₂, ◌∙◌, arith}
use Rattle.std.specs.Prelude.{bit_or}
use Rattle.std.specs.Int.{bit_at}
use Rattle.std.proofs.Math.Nat.{mul-add-div_right, mul-add-mod_self_right, mul-mod_left, mul-div_cancel, mul-div-mul_right, add-mul, mul_assoc, mul_right_comm}
use Rattle.std.proofs.lemmas.Bool.{cases_lt}
use Rattle.std.proofs.lemmas.Nat.{pow_pos, pow-add, mod-pow-add, shr_high, shr_below, mod_low, mod_below, or_lt}
use Rattle.std.proofs.lemmas.Nat.Bits.{bit_at_cat_low, bit_at_cat_high}

-- ---- one bit

-- a word with a bit set is a word
pub set_fits : (word place : ℕ) → word < 2 ^ 128 → bit_or word (1 * 2 ^ place % 2 ^ 128) < 2 ^ 128
set_fits word place fits = or_lt 128 word (1 * 2 ^ place % 2 ^ 128) fits (mod_below (1 * 2 ^ place) (2 ^ 128) (pow_pos 128))

-- the high word alone changes
pub high_changes : (w low high high' place : ℕ) → low < 2 ^ w → w ≤ place → ((i : ℕ) → i ≢ place - w → bit_at high' i ≡ bit_at high i) → (i : ℕ) → i ≢ place → bit_at (high' * 2 ^ w + low) i ≡ bit_at (high * 2 ^ w + low) i
high_changes w low high high' place fits from same i other = elim (cases_lt i w) [
  | inl lt ↦ bit_at_cat_low high' w low i lt ∙ sym (bit_at_cat_low high w low i lt)
  | inr le ↦ bit_at_cat_high high' w low i fits le ∙ same (i - w) (λ e. other (omega (arith, e, le, from))) ∙ sym (bit_at_cat_high high w low i fits le)
]

-- the low word alone changes
pub low_changes : (w low low' high place : ℕ) → low < 2 ^ w → low' < 2 ^ w → ((i : ℕ) → i ≢ place → bit_at low' i ≡ bit_at low i) → (i : ℕ) → i ≢ place → bit_at (high * 2 ^ w + low') i ≡ bit_at (high * 2 ^ w + low) i
low_changes w low low' high place fits fits' same i other = elim (cases_lt i w) [
  | inl lt ↦ bit_at_cat_low high w low' i lt ∙ same i other ∙ sym (bit_at_cat_low high w low i lt)
  | inr le ↦ bit_at_cat_high high w low' i fits' le ∙ sym (bit_at_cat_high high w low i fits le)
]

-- ---- shifts

-- what lies below a shifted word stands beside it
pub beside : (x k w q : ℕ) → k ≤ w → q < 2 ^ k → (x * 2 ^ k + q) % 2 ^ w ≡ x * 2 ^ k % 2 ^ w + q
beside x k w q le lt = parted q lt ∙ ap (λ (n : ℕ). n + q) (sym alone)
  where
    width : w - k + k ≡ w
    width = omega arith

    parted : (r : ℕ) → r < 2 ^ k → (x * 2 ^ k + r) % 2 ^ w ≡ x % 2 ^ (w - k) * 2 ^ k + r
    parted r small =
        ap (λ (n : ℕ). (x * 2 ^ k + r) % 2 ^ n) (sym width) ∙ mod-pow-add (x * 2 ^ k + r) (w - k) k
        ∙ ap₂ (λ (a b : ℕ). a % 2 ^ (w - k) * 2 ^ k + b) (shr_high x k r small) (mod_low x k r small)

    alone : x * 2 ^ k % 2 ^ w ≡ x % 2 ^ (w - k) * 2 ^ k
    alone =
        let none : x * 2 ^ k ≡ x * 2 ^ k + 0 = omega arith in
        let rest : x % 2 ^ (w - k) * 2 ^ k + 0 ≡ x % 2 ^ (w - k) * 2 ^ k = omega arith in
        ap (λ (n : ℕ). n % 2 ^ w) none ∙ parted 0 (pow_pos k) ∙ rest

-- the shifted number as the words of it
spread : (w high low n : ℕ) → (high * 2 ^ w + low) * 2 ^ n ≡ high * 2 ^ n * 2 ^ w + low * 2 ^ n
spread w high low n = add-mul (high * 2 ^ w) low (2 ^ n) ∙ ap (λ (m : ℕ). m + low * 2 ^ n) (mul_right_comm high (2 ^ w) (2 ^ n))

-- what goes from the low word into the high one is small
pub carried : (w low n : ℕ) → low < 2 ^ w → n ≤ w → low / 2 ^ (w - n) < 2 ^ n
carried w low n fits le = let turned : w ≡ n + (w - n) = omega arith in shr_below low n (w - n) (subst (λ (k : ℕ). low < 2 ^ k) turned fits)

-- by less than a word: the high word
within_high : (w high low n : ℕ) → low < 2 ^ w → n ≤ w → (high * 2 ^ n * 2 ^ w + low * 2 ^ n) / 2 ^ w % 2 ^ w ≡ high * 2 ^ n % 2 ^ w + low / 2 ^ (w - n)
within_high w high low n fits le =
    let apart : w ≡ w - n + n = omega arith in
    let power : 2 ^ w ≡ 2 ^ (w - n) * 2 ^ n = ap (λ (k : ℕ). 2 ^ k) apart ∙ pow-add 2 (w - n) n in
    let carry : low * 2 ^ n / 2 ^ w ≡ low / 2 ^ (w - n) = ap (λ (m : ℕ). low * 2 ^ n / m) power ∙ mul-div-mul_right low (2 ^ (w - n)) (pow_pos n) in
    ap (λ (m : ℕ). m % 2 ^ w) (mul-add-div_right (pow_pos w) (high * 2 ^ n) (low * 2 ^ n))
    ∙ ap (λ (m : ℕ). (high * 2 ^ n + m) % 2 ^ w) carry
    ∙ beside high n w (low / 2 ^ (w - n)) le (carried w low n fits le)

-- both words
pub shifted_within : (w high low n : ℕ) → low < 2 ^ w → n ≤ w → (high * 2 ^ n % 2 ^ w + low / 2 ^ (w - n)) * 2 ^ w + low * 2 ^ n % 2 ^ w ≡ (high * 2 ^ w + low) * 2 ^ n % 2 ^ (w + w)
shifted_within w high low n fits le =
    ap₂ (λ (a b : ℕ). a * 2 ^ w + b) (sym (within_high w high low n fits le)) (sym (mul-add-mod_self_right (high * 2 ^ n) (2 ^ w) (low * 2 ^ n)))
    ∙ sym (mod-pow-add (high * 2 ^ n * 2 ^ w + low * 2 ^ n) w w)
    ∙ ap (λ (m : ℕ). m % 2 ^ (w + w)) (sym (spread w high low n))

-- by a word or more: the high word
beyond_high : (w high low m : ℕ) → (high * 2 ^ w + low) * 2 ^ m * 2 ^ w / 2 ^ w % 2 ^ w ≡ low * 2 ^ m % 2 ^ w
beyond_high w high low m =
    ap (λ (k : ℕ). k % 2 ^ w) (mul-div_cancel ((high * 2 ^ w + low) * 2 ^ m) (pow_pos w) ∙ spread w high low m)
    ∙ mul-add-mod_self_right (high * 2 ^ m) (2 ^ w) (low * 2 ^ m)

-- both words
pub shifted_beyond : (w high low m : ℕ) → low * 2 ^ m % 2 ^ w * 2 ^ w + 0 ≡ (high * 2 ^ w + low) * 2 ^ (m + w) % 2 ^ (w + w)
shifted_beyond w high low m =
    let n = (high * 2 ^ w + low) * 2 ^ m in
    let power : (high * 2 ^ w + low) * 2 ^ (m + w) ≡ n * 2 ^ w = ap (λ (k : ℕ). (high * 2 ^ w + low) * k) (pow-add 2 m w) ∙ sym (mul_assoc (high * 2 ^ w + low) (2 ^ m) (2 ^ w)) in
    ap₂ (λ (a b : ℕ). a * 2 ^ w + b) (sym (beyond_high w high low m)) (sym (mul-mod_left n (2 ^ w)))
    ∙ sym (mod-pow-add (n * 2 ^ w) w w)
    ∙ ap (λ (k : ℕ). k % 2 ^ (w + w)) (sym power)
