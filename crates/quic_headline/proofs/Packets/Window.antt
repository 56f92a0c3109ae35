-- A number that came is told by what is kept of those that came: it is one of them, or lies a whole
-- span below one.
use Rattle.std.proofs.Common.{◌≡◌, ℕ, ◌+◌, Bool, true, false, List, [], ◌∷◌, refl, sym, ap, ◌∙◌, inl, inr}
use Rattle.std.specs.Prelude.{◌⊎◌, ◌==◌, ◌||◌, nat_le}
use Rattle.std.proofs.lemmas.Bool.{or_left, or_right, or_cases, eq-eqb, eqb-true, le-leb, leb-true}
use Rattle.quic_recovery_core.specs.Duplicates.{duplicate_span, Seen, is_duplicate}
use Rattle.quic_recovery_core.specs.DuplicateRuns.{seen_after, Came, IsFarBelow}
use Rattle.quic_recovery_core.proofs.DuplicateLaws.{duplicates}
use Rattle.quic_headline.specs.Runs.{is_again}

-- one of the numbers comes again
again_here : (n : ℕ) (numbers : List ℕ) → Came numbers n → is_again n numbers ≡ true
again_here n [] h = absurd h
again_here n (m ∷ ms) (inl e) = or_left ((m == n) || nat_le (n + duplicate_span) m) (is_again n ms) (or_left (m == n) (nat_le (n + duplicate_span) m) (eq-eqb m n (sym e)))
again_here n (m ∷ ms) (inr h) = or_right ((m == n) || nat_le (n + duplicate_span) m) (is_again n ms) (again_here n ms h)

-- so does one that lies a span below one of them
again_below : (n : ℕ) (numbers : List ℕ) → IsFarBelow numbers n → is_again n numbers ≡ true
again_below n [] h = absurd h
again_below n (m ∷ ms) (inl le) = or_left ((m == n) || nat_le (n + duplicate_span) m) (is_again n ms) (or_right (m == n) (nat_le (n + duplicate_span) m) (le-leb (n + duplicate_span) m le))
again_below n (m ∷ ms) (inr h) = or_right ((m == n) || nat_le (n + duplicate_span) m) (is_again n ms) (again_below n ms h)

-- and no other
again_tells : (n : ℕ) (numbers : List ℕ) → is_again n numbers ≡ true → Came numbers n ⊎ IsFarBelow numbers n
again_tells n [] e = absurd cc
again_tells n (m ∷ ms) e = go (or_cases ((m == n) || nat_le (n + duplicate_span) m) (is_again n ms) e) (again_tells n ms)
  where
    first : ((m == n) ≡ true) ⊎ (nat_le (n + duplicate_span) m ≡ true) → Came (m ∷ ms) n ⊎ IsFarBelow (m ∷ ms) n
    first (inl same) = inl (inl (sym (eqb-true m n same)))
    first (inr above) = inr (inl (leb-true (n + duplicate_span) m above))

    rest : Came ms n ⊎ IsFarBelow ms n → Came (m ∷ ms) n ⊎ IsFarBelow (m ∷ ms) n
    rest (inl h) = inl (inr h)
    rest (inr h) = inr (inr h)

    go : (((m == n) || nat_le (n + duplicate_span) m) ≡ true) ⊎ (is_again n ms ≡ true) → (is_again n ms ≡ true → Came ms n ⊎ IsFarBelow ms n) → Came (m ∷ ms) n ⊎ IsFarBelow (m ∷ ms) n
    go (inl here) ih = first (or_cases (m == n) (nat_le (n + duplicate_span) m) here)
    go (inr later) ih = rest (ih later)

same_test : (a b : Bool) → (a ≡ true → b ≡ true) → (b ≡ true → a ≡ true) → a ≡ b
same_test true b f g = sym (f refl)
same_test false true f g = g refl
same_test false false f g = refl

-- what is kept tells the same as the numbers that came
pub is_duplicate-is : (numbers : List ℕ) (s : Seen) (n : ℕ) → s ≡ seen_after numbers → is_duplicate s n ≡ is_again n numbers
is_duplicate-is numbers s n is = ap (λ (x : Seen). is_duplicate x n) is ∙ same_test (is_duplicate (seen_after numbers) n) (is_again n numbers) (λ e. told ((duplicates numbers n).0 e)) (λ e. (duplicates numbers n).1 (again_tells n numbers e))
  where
    told : Came numbers n ⊎ IsFarBelow numbers n → is_again n numbers ≡ true
    told (inl h) = again_here n numbers h
    told (inr h) = again_below n numbers h
