-- Keys that protect nothing meet the laws of keys.
use Rattle.std.proofs.Common.{◌≡◌, ℕ, suc, ◌+◌, ◌/◌, ◌%◌, List, [], ◌∷◌, length, drop, refl, ◌∙◌, ap, subst, arith, length-append}
use Rattle.std.specs.Prelude.{◌-◌, ◌≤◌, ◌&&◌, Bool, true, false, Some, None, take, nat_le, nat_eq, if◌then◌else◌, slice_index}
use Rattle.std.specs.Int.Bits.{xor_zero_r}
use Rattle.std.specs.Cmp.Lexicographic.{pointwise}
use Rattle.std.proofs.lemmas.List.{length-take-le}
use Rattle.std.proofs.lemmas.Nat.{xor_shr}
use Rattle.quic_keys.specs.Plain.{xored, mask_first, mask_number, tag, plain_sealed, plain_opened}

-- masking keeps the top three bits
pub first_form : (s : List ℕ) (b : ℕ) → mask_first s b / 32 ≡ b / 32
first_form s b =
    let m = slice_index s 0 % 32 in
    let none : m / 32 ≡ 0 = omega arith in
    xor_shr b m 5 ∙ rw none (xor_zero_r (b / 32))

-- masking keeps how many bytes there are
xored_length : (y m : List ℕ) → length (xored y m) ≡ length y
xored_length [] m = refl
xored_length (b ∷ bs) m = ap (λ (n : ℕ). suc n) (xored_length bs (drop 1 m))

-- masking keeps how many bytes the number has
pub number_length : (s y : List ℕ) → length (mask_number s y) ≡ length y
number_length s y = xored_length y (drop 1 s)

-- sealing adds 16 bytes
pub adds_tag : (mark n : ℕ) (h p : List ℕ) → length (plain_sealed mark n h p) ≡ length p + 16
adds_tag mark n h p = length-append p (tag mark n)

-- opening gives no more bytes than there were
pub opens_no_more : (mark n : ℕ) (h b p : List ℕ) → plain_opened mark n h b ≡ Some p → length p ≤ length b
opens_no_more mark n h b p = go (nat_le 16 (length b) && pointwise nat_eq (drop (length b - 16) b) (tag mark n))
  where
    go : (c : Bool) → (if c then Some (take (length b - 16) b) else None) ≡ Some p → length p ≤ length b
    go true is =
        let part : take (length b - 16) b ≡ p = cc in
        let count : length (take (length b - 16) b) ≡ length b - 16 = length-take-le (length b - 16) b (omega arith) in
        subst (λ (x : List ℕ). length x ≤ length b) part (omega (arith, count))
    go false none = cc
