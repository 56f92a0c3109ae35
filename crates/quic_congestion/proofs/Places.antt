-- What edits of the places do to the sizes.
use Rattle.std.proofs.Common.{◌≡◌, ℕ, ◌<◌, List, [], ◌∷◌, leb, ltb, cond, take, length, Bool, true, false, zero, suc, refl, sym, ap, ◌∙◌, arith, Some, None, Option}
use Rattle.std.specs.Option.{is_some}
use Rattle.std.proofs.lemmas.Bool.{lt-ltb, le-leb, leb-true, leb-false, ltb-true}
use Rattle.quic_congestion.specs.Bursts.{placed, kept_above}
use Rattle.quic_congestion.specs.Passing.{greater, lesser, passed_on, above, all_above}
use Rattle.quic_congestion.specs.Places.{sizes_in, IsAtMost, Descend}

-- no size stands behind a free place
free : (ps : List (Option ℕ)) → Descend (None ∷ ps) → sizes_in ps ≡ []
free [] h = refl
free (None ∷ ps) h = free ps h.1
free (Some size ∷ ps) h = absurd h.0

descend_tail : (p : Option ℕ) (ps : List (Option ℕ)) → Descend (p ∷ ps) → Descend ps
descend_tail p [] h = tt
descend_tail p (q ∷ ps) h = h.1

-- a size stands in front of all that are not above it
in_front : (y : ℕ) (ps : List (Option ℕ)) → Descend (Some y ∷ ps) → placed y (sizes_in ps) ≡ y ∷ sizes_in ps
in_front y [] h = refl
in_front y (None ∷ ps) h = rw (free ps h.1) refl
in_front y (Some z ∷ ps) h = rw (le-leb z y h.0) refl

-- nothing that comes moves nothing
unmoved : (ps : List (Option ℕ)) → passed_on None ps ≡ ps
unmoved [] = refl
unmoved (None ∷ ps) = ap (λ (x : List (Option ℕ)). None ∷ x) (unmoved ps)
unmoved (Some k ∷ ps) = ap (λ (x : List (Option ℕ)). Some k ∷ x) (unmoved ps)

take_none : (n : ℕ) → take {A = ℕ} n [] ≡ []
take_none zero = refl
take_none (suc n) = refl

-- a size goes to its place, and of one more than there are places the last goes
pub passed_on_sizes : (s : ℕ) (ps : List (Option ℕ)) → Descend ps → sizes_in (passed_on (Some s) ps) ≡ take (length ps) (placed s (sizes_in ps))
passed_on_sizes s [] h = refl
passed_on_sizes s (None ∷ ps) h =
    let e = free ps h in
    rw (unmoved ps, e) (ap (λ (x : List ℕ). s ∷ x) (sym (take_none (length ps))))
passed_on_sizes s (Some y ∷ ps) h = go (leb y s) refl (passed_on_sizes y ps (descend_tail (Some y) ps h)) (passed_on_sizes s ps (descend_tail (Some y) ps h))
  where
    go : (b : Bool) → leb y s ≡ b
        → sizes_in (passed_on (Some y) ps) ≡ take (length ps) (placed y (sizes_in ps))
        → sizes_in (passed_on (Some s) ps) ≡ take (length ps) (placed s (sizes_in ps))
        → sizes_in (cond b (Some s) (Some y) ∷ passed_on (cond b (Some y) (Some s)) ps) ≡ take (length (Some y ∷ ps)) (cond b (s ∷ y ∷ sizes_in ps) (y ∷ placed s (sizes_in ps)))
    go true e i j = ap (λ (x : List ℕ). s ∷ x) (i ∙ ap (take (length ps)) (in_front y ps h))
    go false e i j = ap (λ (x : List ℕ). y ∷ x) j

-- ---- the order stays

pub stays_ordered : (a b r : Option ℕ) → IsAtMost b a → IsAtMost (greater b (lesser a r)) (greater a r)
stays_ordered None None r h = tt
stays_ordered None (Some y) r h = absurd h
stays_ordered (Some x) None None h = tt
stays_ordered (Some x) (Some y) None h = h
stays_ordered (Some x) None (Some s) h = go (leb x s) refl
  where
    go : (b : Bool) → leb x s ≡ b → IsAtMost (cond b (Some x) (Some s)) (cond b (Some s) (Some x))
    go true e = leb-true x s e
    go false e = let l = leb-false x s e in omega arith
stays_ordered (Some x) (Some y) (Some s) h = go (leb x s) refl
  where
    last : (c : Bool) → leb y s ≡ c → s < x → IsAtMost (cond c (Some s) (Some y)) (Some x)
    last true e l = omega arith
    last false e l = h

    go : (b : Bool) → leb x s ≡ b → IsAtMost (greater (Some y) (cond b (Some x) (Some s))) (cond b (Some s) (Some x))
    go true e = rw (le-leb y x h) (leb-true x s e)
    go false e = last (leb y s) refl (leb-false x s e)

-- ---- what isn't above a size goes

pub above_sizes : (s : ℕ) (ps : List (Option ℕ)) → sizes_in (all_above s ps) ≡ kept_above s (sizes_in ps)
above_sizes s [] = refl
above_sizes s (None ∷ ps) = above_sizes s ps
above_sizes s (Some y ∷ ps) = go (ltb s y) (above_sizes s ps)
  where
    go : (b : Bool) → sizes_in (all_above s ps) ≡ kept_above s (sizes_in ps) → sizes_in (cond b (Some y) None ∷ all_above s ps) ≡ cond b (y ∷ kept_above s (sizes_in ps)) (kept_above s (sizes_in ps))
    go true e = ap (λ (x : List ℕ). y ∷ x) e
    go false e = e

pub above_ordered : (s : ℕ) (a b : Option ℕ) → IsAtMost b a → IsAtMost (above s b) (above s a)
above_ordered s a None h = tt
above_ordered s None (Some y) h = absurd h
above_ordered s (Some x) (Some y) h = go (ltb s y) refl
  where
    go : (c : Bool) → ltb s y ≡ c → IsAtMost (cond c (Some y) None) (above s (Some x))
    go true e = let l = ltb-true s y e in let k : s < x = omega arith in rw (lt-ltb s x k) h
    go false e = tt

-- ---- four are kept just where the last place is taken

taken : (a b c d : Option ℕ) → IsAtMost b a → IsAtMost c b → IsAtMost d c → is_some d ≡ ltb 3 (length (sizes_in (a ∷ b ∷ c ∷ d ∷ [])))
taken None None None None h k l = refl
taken (Some a) None None None h k l = refl
taken (Some a) (Some b) None None h k l = refl
taken (Some a) (Some b) (Some c) None h k l = refl
taken (Some a) (Some b) (Some c) (Some d) h k l = refl
taken None (Some b) c d h k l = absurd h
taken a None (Some c) d h k l = absurd k
taken a b None (Some d) h k l = absurd l

pub fourth_taken : (a b c d : Option ℕ) → Descend (a ∷ b ∷ c ∷ d ∷ []) → is_some d ≡ ltb 3 (length (sizes_in (a ∷ b ∷ c ∷ d ∷ [])))
fourth_taken a b c d h = taken a b c d h.0 h.1.0 h.1.1.0
