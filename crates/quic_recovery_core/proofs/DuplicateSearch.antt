-- The first number of a range that passes a test, where the range is cut.
use Rattle.std.proofs.Common.{◌≡◌, ℕ, suc, zero, ◌+◌, ◌-◌, ◌≤◌, ◌<◌, Bool, true, false, cond, max, min, Option, Some, None, refl, sym, ap, ◌∙◌, inl, inr, arith}
use Rattle.std.specs.Prelude.{◌&&◌, not, nat_lt}
use Rattle.std.specs.List.{find, range_with_len}
use Rattle.std.proofs.lemmas.Bool.{cases_lt, and_parts, leb-true, ltb-true, le-leb, lt-ltb, false_from_ne_true, cond-false}
use Rattle.quic_recovery_core.specs.Duplicates.{Seen, is_in, next_of, is_near, is_missing, smallest_missing}
use Rattle.quic_recovery_core.specs.declared.spaces.dedup.TheConstants.{DUPLICATE_SPAN}

find_none : (p : ℕ → Bool) (a n : ℕ) → ((k : ℕ) → a ≤ k → k < a + n → p k ≡ false) → find p (range_with_len a n) ≡ None
find_none p a zero f = refl
find_none p a (suc n) f =
    cond-false (p a) (Some a) (find p (range_with_len (a + 1) n)) (f a (omega arith) (omega arith))
    ∙ find_none p (a + 1) n (λ k le lt. f k (omega (arith, le)) (omega (arith, lt)))

find_skip : (p : ℕ → Bool) (d a n : ℕ) → ((k : ℕ) → a ≤ k → k < a + d → p k ≡ false) → find p (range_with_len a (d + n)) ≡ find p (range_with_len (a + d) n)
find_skip p zero a n f =
    let e : zero + n ≡ n = omega arith in
    let s : a ≡ a + zero = omega arith in
    ap (λ (m : ℕ). find p (range_with_len a m)) e ∙ ap (λ (b : ℕ). find p (range_with_len b n)) s
find_skip p (suc d) a n f =
    let e : suc d + n ≡ suc (d + n) = omega arith in
    let s : a + 1 + d ≡ a + suc d = omega arith in
    ap (λ (m : ℕ). find p (range_with_len a m)) e
    ∙ cond-false (p a) (Some a) (find p (range_with_len (a + 1) (d + n))) (f a (omega arith) (omega arith))
    ∙ find_skip p d (a + 1) n (λ k le lt. f k (omega (arith, le)) (omega (arith, lt)))
    ∙ ap (λ (b : ℕ). find p (range_with_len b n)) s

find_cut : (p : ℕ → Bool) (n a e : ℕ) → ((k : ℕ) → a + n ≤ k → k < a + n + e → p k ≡ false) → find p (range_with_len a (n + e)) ≡ find p (range_with_len a n)
find_cut p zero a e f =
    let m : zero + e ≡ e = omega arith in
    ap (λ (x : ℕ). find p (range_with_len a x)) m ∙ find_none p a e (λ k le lt. f k (omega (arith, le)) (omega (arith, lt)))
find_cut p (suc n) a e f =
    let m : suc n + e ≡ suc (n + e) = omega arith in
    ap (λ (x : ℕ). find p (range_with_len a x)) m
    ∙ ap (λ (o : Option ℕ). cond (p a) (Some a) o) (find_cut p n (a + 1) e (λ k le lt. f k (omega (arith, le)) (omega (arith, lt))))

find_same : (p q : ℕ → Bool) (n a : ℕ) → ((k : ℕ) → a ≤ k → k < a + n → p k ≡ q k) → find p (range_with_len a n) ≡ find q (range_with_len a n)
find_same p q zero a f = refl
find_same p q (suc n) a f =
    ap (λ (b : Bool). cond b (Some a) (find p (range_with_len (a + 1) n))) (f a (omega arith) (omega arith))
    ∙ ap (λ (o : Option ℕ). cond (q a) (Some a) o) (find_same p q n (a + 1) (λ k le lt. f k (omega (arith, le)) (omega (arith, lt))))

-- what is missing lies in the window
missing_near : (s : Seen) (k : ℕ) → is_missing s k ≡ true → (next_of s ≤ k + DUPLICATE_SPAN) × (k < next_of s)
missing_near s k e =
    let parts = and_parts (is_near (next_of s) k) (nat_lt k (next_of s) && not (is_in s k)) e in
    let rest = and_parts (nat_lt k (next_of s)) (not (is_in s k)) parts.1 in
    (leb-true (next_of s) (k + DUPLICATE_SPAN) parts.0, ltb-true k (next_of s) rest.0)

-- in the window a number is missing where it did not come
missing_is : (s : Seen) (k : ℕ) → next_of s ≤ k + DUPLICATE_SPAN → k < next_of s → is_missing s k ≡ not (is_in s k)
missing_is s k near below =
    let e : is_near (next_of s) k ≡ true = le-leb (next_of s) (k + DUPLICATE_SPAN) near in
    let b : nat_lt k (next_of s) ≡ true = lt-ltb k (next_of s) below in
    ap (λ (x : Bool). x && (nat_lt k (next_of s) && not (is_in s k))) e ∙ ap (λ (x : Bool). true && (x && not (is_in s k))) b

-- so the search may begin and end with the window
pub searched : (s : Seen) (low high first end most : ℕ) → high ≤ most → first ≡ max (min (low + 1) most) (next_of s - DUPLICATE_SPAN) → end ≡ min high (next_of s) → find (λ k. not (is_in s k)) (range_with_len first (end - first)) ≡ smallest_missing s low high
searched s low high first end most small starts ends =
    let p : ℕ → Bool = λ k. is_missing s k in
    let q : ℕ → Bool = λ k. not (is_in s k) in
    elim (cases_lt first end) [
      | inr le ↦ (let none : end - first ≡ 0 = omega (arith, le) in
          ap (λ (n : ℕ). find q (range_with_len first n)) none
          ∙ sym (find_none p (low + 1) (high - (low + 1)) (λ k from to. false_from_ne_true (p k) (λ e. let m = missing_near s k e in
          let m0 = m.0 in
          let m1 = m.1 in
          omega (arith, m0, m1, from, to, le, starts, ends, small)))))
      | inl lt ↦ (let d = first - (low + 1) in
          let n = end - first in
          let cut = high - end in
          let whole : high - (low + 1) ≡ d + (n + cut) = omega (arith, lt, starts, ends, small) in
          let at : low + 1 + d ≡ first = omega (arith, lt, starts, ends, small) in
          sym (find_same p q n first (λ k from to. missing_is s k (omega (arith, from, starts)) (omega (arith, to, ends, lt))))
          ∙ sym (find_cut p n first cut (λ k from to. false_from_ne_true (p k) (λ e. let m = missing_near s k e in
          let m1 = m.1 in
          omega (arith, m1, from, to, lt, ends))))
          ∙ ap (λ (b : ℕ). find p (range_with_len b (n + cut))) (sym at)
          ∙ sym (find_skip p d (low + 1) (n + cut) (λ k from to. false_from_ne_true (p k) (λ e. let m = missing_near s k e in
          let m0 = m.0 in
          omega (arith, m0, from, to, lt, starts, at))))
          ∙ ap (λ (m : ℕ). find p (range_with_len (low + 1) m)) (sym whole))
    ]
