-- Values of which the first ones all have numbers below a number, and the others none: each call is
-- one on the first, or on the others.
use Rattle.std.proofs.Common.{append-nil, ◌≡◌, ℕ, ◌≤◌, ◌<◌, Bool, true, false, cond, [], ◌∷◌, ◌++◌, Some, None, refl, sym, ap, ◌∙◌, arith}
use Rattle.std.specs.BTreeMap.{is_at}
use Rattle.std.specs.Ordering.{nat_cmp, match_ordering}
use Rattle.std.specs.declared.cmp.Ordering.{Ordering}
use Rattle.std.specs.declared.cmp.Ordering.TheVariants.{Less, Equal, Greater}
use Rattle.std.specs.Cmp.{nat_cmp_is, unsigned_tied}
use Rattle.std.proofs.lemmas.Bool.{ne_eqb}
use Rattle.quic_streams_parts.specs.Table.{Table, at, put, without, added}
use Rattle.quic_streams_parts.specs.TableLaws.{ids-added, ids-without, without-unknown}
use Rattle.quic_streams_parts.specs.Slots.{AllBelow, AllFrom}

-- a number is not where another is
pub other : (n k : ℕ) → (n ≡ k → ⊥) → is_at (nat_cmp n) k ≡ false
other n k ne = unsigned_tied n k ∙ ne_eqb n k ne

pub below_less : (n k : ℕ) → n < k → nat_cmp n k ≡ Less
below_less n k l = sym (nat_cmp_is n k Less l)

pub above_greater : (n k : ℕ) → k < n → nat_cmp n k ≡ Greater
above_greater n k l = sym (nat_cmp_is n k Greater l)

module _ {A : Type 0} where
  -- below more than a number
  pub below_more : (a b : ℕ) (es : Table A) → a ≤ b → AllBelow a es → AllBelow b es
  below_more a b [] le all = tt
  below_more a b (x ∷ es) le all = (let l = all.0 in omega arith, below_more a b es le all.1)

  pub from_less : (a b : ℕ) (es : Table A) → b ≤ a → AllFrom a es → AllFrom b es
  from_less a b [] le all = tt
  from_less a b (x ∷ es) le all = (let l = all.0 in omega arith, from_less a b es le all.1)

  pub below_added : (b : ℕ) (es : Table A) (n : ℕ) (p : A) → n < b → AllBelow b es → AllBelow b (added es n p)
  below_added b es n p l all = ids-added (λ k. k < b) es n p l all

  pub below_without : (b : ℕ) (es : Table A) (n : ℕ) → AllBelow b es → AllBelow b (without es n)
  below_without b es n all = ids-without (λ k. k < b) es n all

  module _ (b : ℕ) where
    -- none of the others has a number below
    absent : (ys : Table A) (n : ℕ) → AllFrom b ys → n < b → at ys n ≡ None
    absent [] n all l = refl
    absent (y ∷ ys) n all l = let le = all.0 in rw (other n y.0 (λ e. omega arith)) (absent ys n all.1 l)

    pub at_below : (xs ys : Table A) (n : ℕ) → AllFrom b ys → n < b → at (xs ++ ys) n ≡ at xs n
    at_below [] ys n all l = absent ys n all l
    at_below (x ∷ xs) ys n all l = ap (λ r. cond (is_at (nat_cmp n) x.0) (Some x.1) r) (at_below xs ys n all l)

    pub at_from : (xs ys : Table A) (n : ℕ) → AllBelow b xs → b ≤ n → at (xs ++ ys) n ≡ at ys n
    at_from [] ys n all le = refl
    at_from (x ∷ xs) ys n all le = let l = all.0 in rw (other n x.0 (λ e. omega arith)) (at_from xs ys n all.1 le)

    pub without_below : (xs ys : Table A) (n : ℕ) → AllFrom b ys → n < b → without (xs ++ ys) n ≡ without xs n ++ ys
    without_below [] ys n all l = without-unknown ys n (absent ys n all l)
    without_below (x ∷ xs) ys n all l = go (is_at (nat_cmp n) x.0) (without_below xs ys n all l)
      where
        go : (d : Bool) → without (xs ++ ys) n ≡ without xs n ++ ys → cond d (xs ++ ys) (x ∷ without (xs ++ ys) n) ≡ cond d xs (x ∷ without xs n) ++ ys
        go true ih = refl
        go false ih = ap (λ t. x ∷ t) ih

    pub without_from : (xs ys : Table A) (n : ℕ) → AllBelow b xs → b ≤ n → without (xs ++ ys) n ≡ xs ++ without ys n
    without_from [] ys n all le = refl
    without_from (x ∷ xs) ys n all le = let l = all.0 in rw (other n x.0 (λ e. omega arith)) (ap (λ t. x ∷ t) (without_from xs ys n all.1 le))

    -- nothing is put where nothing is
    put_absent : (ys : Table A) (n : ℕ) (p : A) → AllFrom b ys → n < b → put ys n p ≡ ys
    put_absent [] n p all l = refl
    put_absent (y ∷ ys) n p all l = let le = all.0 in rw (other n y.0 (λ e. omega arith)) (ap (λ t. y ∷ t) (put_absent ys n p all.1 l))

    pub put_below : (xs ys : Table A) (n : ℕ) (p : A) → AllFrom b ys → n < b → put (xs ++ ys) n p ≡ put xs n p ++ ys
    put_below [] ys n p all l = put_absent ys n p all l
    put_below (x ∷ xs) ys n p all l = go (is_at (nat_cmp n) x.0) (put_below xs ys n p all l)
      where
        go : (d : Bool) → put (xs ++ ys) n p ≡ put xs n p ++ ys → cond d ((x.0, p) ∷ xs ++ ys) (x ∷ put (xs ++ ys) n p) ≡ cond d ((x.0, p) ∷ xs) (x ∷ put xs n p) ++ ys
        go true ih = refl
        go false ih = ap (λ t. x ∷ t) ih

    pub put_from : (xs ys : Table A) (n : ℕ) (p : A) → AllBelow b xs → b ≤ n → put (xs ++ ys) n p ≡ xs ++ put ys n p
    put_from [] ys n p all le = refl
    put_from (x ∷ xs) ys n p all le = let l = all.0 in rw (other n x.0 (λ e. omega arith)) (ap (λ t. x ∷ t) (put_from xs ys n p all.1 le))

    -- before all others
    added_first : (ys : Table A) (n : ℕ) (p : A) → AllFrom b ys → n < b → added ys n p ≡ (n, p) ∷ ys
    added_first [] n p all l = refl
    added_first (y ∷ ys) n p all l = let le = all.0 in rw (below_less n y.0 (omega arith)) refl

    pub added_below : (xs ys : Table A) (n : ℕ) (p : A) → AllFrom b ys → n < b → added (xs ++ ys) n p ≡ added xs n p ++ ys
    added_below [] ys n p all l = added_first ys n p all l
    added_below (x ∷ xs) ys n p all l = go (nat_cmp n x.0) (added_below xs ys n p all l)
      where
        go : (r : Ordering) → added (xs ++ ys) n p ≡ added xs n p ++ ys
            → match_ordering r ((n, p) ∷ x ∷ (xs ++ ys)) ((x.0, p) ∷ (xs ++ ys)) (x ∷ added (xs ++ ys) n p) ≡ match_ordering r ((n, p) ∷ x ∷ xs) ((x.0, p) ∷ xs) (x ∷ added xs n p) ++ ys
        go Less ih = refl
        go Equal ih = refl
        go Greater ih = ap (λ t. x ∷ t) ih

    pub added_from : (xs ys : Table A) (n : ℕ) (p : A) → AllBelow b xs → b ≤ n → added (xs ++ ys) n p ≡ xs ++ added ys n p
    added_from [] ys n p all le = refl
    added_from (x ∷ xs) ys n p all le = let l = all.0 in rw (above_greater n x.0 (omega arith)) (ap (λ t. x ∷ t) (added_from xs ys n p all.1 le))

  -- below a number, both of the first and of the others
  pub below_append : (b : ℕ) (xs ys : Table A) → AllBelow b xs → AllBelow b ys → AllBelow b (xs ++ ys)
  below_append b [] ys all more = more
  below_append b (x ∷ xs) ys all more = (all.0, below_append b xs ys all.1 more)

  -- what is added behind all numbers comes last
  pub added_last : (b : ℕ) (es : Table A) (p : A) → AllBelow b es → added es b p ≡ es ++ (b, p) ∷ []
  added_last b es p all = ap (λ xs. added xs b p) (sym (append-nil es)) ∙ added_from b es [] b p all (omega arith)
