-- Runs of numbers.
use Rattle.std.proofs.Common.{◌≡◌, ℕ, zero, suc, ◌+◌, ◌-◌, ◌<◌, ◌≤◌, [], ◌∷◌, ◌++◌, List, sym, ap, ◌∙◌, subst, append_assoc, arith}
use Rattle.std.specs.List.{range_with_len, AllByRecursion}

-- one more number goes behind the others
range_more : (a n : ℕ) → range_with_len a (suc n) ≡ range_with_len a n ++ (a + n) ∷ []
range_more a zero = ap (λ (k : ℕ). k ∷ []) (let e : a ≡ a + 0 = omega arith in e)
range_more a (suc n) =
    let e : a + 1 + n ≡ a + suc n = omega arith in
    ap (λ (l : List ℕ). a ∷ l) (range_more (a + 1) n ∙ ap (λ (k : ℕ). range_with_len (a + 1) n ++ k ∷ []) e)

pub appended_more : (list now old : List ℕ) (a n : ℕ) → now ≡ list ++ (a + n) ∷ [] → list ≡ old ++ range_with_len a n → now ≡ old ++ range_with_len a (n + 1)
appended_more list now old a n e h =
    let next : suc n ≡ n + 1 = omega arith in
    e ∙ ap (λ (l : List ℕ). l ++ (a + n) ∷ []) h ∙ append_assoc old (range_with_len a n) ((a + n) ∷ [])
    ∙ ap (λ (l : List ℕ). old ++ l) (sym (range_more a n)) ∙ ap (λ (k : ℕ). old ++ range_with_len a k) next

-- each of a run lies below where it ends
range_below : (a n bound : ℕ) → n ≤ bound - a → AllByRecursion (λ k. k < bound) (range_with_len a n)
range_below a zero bound le = tt
range_below a (suc n) bound le = (omega arith, range_below (a + 1) n bound (omega arith))

all_behind : (P : ℕ → Type 0) (xs ys : List ℕ) → AllByRecursion P xs → AllByRecursion P ys → AllByRecursion P (xs ++ ys)
all_behind P [] ys h g = g
all_behind P (x ∷ xs) ys h g = (h.0, all_behind P xs ys h.1 g)

-- and so do they with others that do
pub range_fits : (new old : List ℕ) (a n bound : ℕ) → new ≡ old ++ range_with_len a n → n ≤ bound - a → AllByRecursion (λ k. k < bound) old → AllByRecursion (λ k. k < bound) new
range_fits new old a n bound is le h = subst (AllByRecursion (λ k. k < bound)) (sym is) (all_behind (λ k. k < bound) old (range_with_len a n) h (range_below a n bound le))
