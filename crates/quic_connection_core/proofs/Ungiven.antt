-- Whether an ACK frame names a number that was never given, range by range.
use Rattle.std.proofs.Common.{◌≡◌, ℕ, ◌<◌, Bool, true, false, ◌||◌, nat_le, List, ◌∷◌, Option, Result, is_ok, IsOk, IsErrOf, refl, sym, ap, ◌∙◌}
use Rattle.std.specs.List.{list_any}
use Rattle.std.proofs.lemmas.Bool.{lt-leb}
use Rattle.quic_spaces.specs.Filter.{names_skipped}

-- whether one of these ranges has the number that was left out last
abbrev pub skips : Option ℕ → List (ℕ × ℕ) → Bool
skips last rs = list_any (λ r. names_skipped last r.0 r.1) rs

-- what the answer to a range says of it
pub is_refused : {T E : Type 0} (r : Result T E) (b : Bool) → (b ≡ false → IsOk r) → is_ok r ≡ false → b ≡ true
is_refused r true ok none = refl
is_refused r false ok none = let e : true ≡ false = sym (ok refl) ∙ none in absurd cc

pub is_taken : {T E : Type 0} (r : Result T E) (e : E) (b : Bool) → (b ≡ true → IsErrOf r e) → is_ok r ≡ true → b ≡ false
is_taken r e false err some = refl
is_taken r e true err some = let f : true ≡ false = sym some ∙ ap is_ok (err refl) in absurd cc

-- a range that has it: the frame names it
pub skips_here : (last : Option ℕ) (low high : ℕ) (all rs ranges : List (ℕ × ℕ)) → all ≡ (low, high) ∷ rs → skips last all ≡ skips last ranges → names_skipped last low high ≡ true → skips last ranges ≡ true
skips_here last low high all rs ranges e so_far is = sym so_far ∙ ap (skips last) e ∙ ap (λ (b : Bool). b || skips last rs) is

-- one that hasn't is passed over
pub skips_behind : (last : Option ℕ) (low high : ℕ) (all rs ranges : List (ℕ × ℕ)) → all ≡ (low, high) ∷ rs → skips last all ≡ skips last ranges → names_skipped last low high ≡ false → skips last rs ≡ skips last ranges
skips_behind last low high all rs ranges e so_far is = sym (ap (skips last) e ∙ ap (λ (b : Bool). b || skips last rs) is) ∙ so_far

-- both tests
pub one_named : (next largest : ℕ) (b : Bool) → b ≡ true → (nat_le next largest || b) ≡ true
one_named next largest b is = ap (λ (d : Bool). nat_le next largest || d) is ∙ or_true (nat_le next largest)
  where
    or_true : (d : Bool) → (d || true) ≡ true
    or_true true = refl
    or_true false = refl

pub none_named : (next largest : ℕ) (b : Bool) → largest < next → b ≡ false → (nat_le next largest || b) ≡ false
none_named next largest b below is = ap (λ (d : Bool). d || b) (lt-leb next largest below) ∙ is
