-- Places that are left: of the offsets below a bound those that aren't among some, as many as there
-- are less those; and those of all streams, as one list.
use Rattle.std.proofs.Common.{◌≡◌, ℕ, zero, suc, ◌+◌, ◌<◌, ◌≤◌, eqb, Bool, true, false, List, [], ◌∷◌, ◌++◌, length, refl, sym, ap, ◌∙◌, subst, ◌⊎◌, inl, inr, arith, length-append}
use Rattle.std.specs.Prelude.{◌==◌, ◌&&◌}
use Rattle.std.specs.List.{IsDistinct, AllByRecursion}
use Rattle.std.proofs.lemmas.Bool.{cases_eq, ne_eqb}
use Rattle.quic_streams_laws.specs.Summed.{sum_below}
use Rattle.quic_headline.specs.Runs.{In}
use Rattle.quic_headline.specs.Unread.{same_place}
use Rattle.quic_headline.proofs.Places.Told.{in_append}

-- what holds of each that is among some
all_among : {X : Type 0} (P : X → Type 0) (xs : List X) → ((x : X) → In x xs → P x) → AllByRecursion P xs
all_among P [] each = tt
all_among P (x ∷ xs) each = (each x (inl refl), all_among P xs (λ y i. each y (inr i)))

-- ---- the offsets of one stream

-- those below a bound that aren't among some
pub record Left (n : ℕ) (xs : List ℕ) : Type 0 where
  pub places : List ℕ
  pub distinct : IsDistinct eqb places
  pub below : (y : ℕ) → In y places → y < n
  pub out : (y : ℕ) → In y places → In y xs → ⊥
  pub many : n ≤ length places + length xs

-- some without one, if it is there
record Without (n : ℕ) (xs : List ℕ) : Type 0 where
  rest : List ℕ
  fewer : length rest + 1 ≡ length xs
  has : (y : ℕ) → In y xs → (y ≡ n) ⊎ In y rest

without_one : (n : ℕ) (xs : List ℕ) → Without n xs ⊎ (In n xs → ⊥)
without_one n [] = inr (λ i. i)
without_one n (x ∷ xs) = elim (cases_eq x n) [
  | inl same ↦ inl (record { rest = xs; fewer = omega arith; has = λ y i. elim i [ inl e ↦ inl (e ∙ same) | inr more ↦ inr more ] })
  | inr ne ↦ elim (without_one n xs) [
    | inl w ↦ inl (record { rest = x ∷ w.rest; fewer = (let f = w.fewer in omega arith); has = λ y i. elim i [ inl e ↦ inr (inl e) | inr more ↦ elim (w.has y more) [ inl is ↦ inl is | inr there ↦ inr (inr there) ] ] })
    | inr none ↦ inr (λ i. elim i [ inl e ↦ ne (sym e) | inr more ↦ none more ])
  ]
]

distinct_with : (n : ℕ) (xs : List ℕ) → ((y : ℕ) → In y xs → y < n) → IsDistinct eqb xs → IsDistinct eqb (n ∷ xs)
unfolding IsDistinct
distinct_with n xs below d = (all_among (λ y. eqb n y ≡ false) xs (λ y i. (let less = below y i in ne_eqb n y (λ e. (let same : n ≡ y = e in omega arith)))), d)

nothing_distinct : IsDistinct eqb []
unfolding IsDistinct
nothing_distinct = tt

pub left_out : (n : ℕ) (xs : List ℕ) → Left n xs
left_out zero xs = record { places = []; distinct = nothing_distinct; below = λ y i. absurd i; out = λ y i j. i; many = omega arith }
left_out (suc n) xs = elim (without_one n xs) [
  | inl w ↦ (
      let l = left_out n w.rest in
      let fewer = w.fewer in
      let many = l.many in
      record {
        places = l.places;
        distinct = l.distinct;
        below = λ y i. (let less = l.below y i in omega arith);
        out = λ y i j. elim (w.has y j) [ inl same ↦ (let less = l.below y i in let is : y ≡ n = same in absurd (omega arith)) | inr there ↦ l.out y i there ];
        many = omega arith;
      })
  | inr none ↦ (
      let l = left_out n xs in
      let many = l.many in
      record {
        places = n ∷ l.places;
        distinct = distinct_with n l.places l.below l.distinct;
        below = λ y i. elim i [ inl is ↦ (let same : y ≡ n = is in omega arith) | inr more ↦ (let less = l.below y more in omega arith) ];
        out = λ y i j. elim i [ inl is ↦ none (subst (λ z. In z xs) is j) | inr more ↦ l.out y more j ];
        many = omega arith;
      })
]

-- ---- those of all streams

-- offsets with their stream
abbrev of_stream : ℕ → List ℕ → List (ℕ × ℕ)
of_stream j [] = []
of_stream j (o ∷ os) = (j, o) ∷ of_stream j os

-- those of each stream below a bound
unfoldable pub of_streams : ℕ → (ℕ → List ℕ) → List (ℕ × ℕ)
of_streams zero f = []
of_streams (suc n) f = of_stream n (f n) ++ of_streams n f

-- there are as many
one_many : (j : ℕ) (os : List ℕ) → length (of_stream j os) ≡ length os
one_many j [] = refl
one_many j (o ∷ os) = let rest = one_many j os in omega arith

pub all_many : (n : ℕ) (f : ℕ → List ℕ) → length (of_streams n f) ≡ sum_below n (λ j. length (f j))
unfolding sum_below of_streams
all_many zero f = refl
all_many (suc n) f =
    let here = one_many n (f n) in
    let rest = all_many n f in
    let both = length-append (of_stream n (f n)) (of_streams n f) in
    omega arith

-- each is one of its stream
one_of : (j : ℕ) (os : List ℕ) (p : ℕ × ℕ) → In p (of_stream j os) → (p.0 ≡ j) × In p.1 os
one_of j [] p i = absurd i
one_of j (o ∷ os) p (inl is) = (ap (λ (q : ℕ × ℕ). q.0) is, inl (ap (λ (q : ℕ × ℕ). q.1) is))
one_of j (o ∷ os) p (inr i) = let rest = one_of j os p i in (rest.0, inr rest.1)

pub all_of : (n : ℕ) (f : ℕ → List ℕ) (p : ℕ × ℕ) → In p (of_streams n f) → (p.0 < n) × In p.1 (f p.0)
unfolding of_streams
all_of zero f p i = absurd i
all_of (suc n) f p i = elim (in_append p (of_stream n (f n)) (of_streams n f) i) [
  | inl here ↦ (let one = one_of n (f n) p here in let same : p.0 ≡ n = one.0 in (omega arith, subst (λ (j : ℕ). In p.1 (f j)) (sym one.0) one.1))
  | inr there ↦ (let rest = all_of n f p there in let less = rest.0 in (omega arith, rest.1))
]

-- no two are the same
apart_first : (a b c d : ℕ) → (a ≡ c → ⊥) → same_place (a, b) (c, d) ≡ false
apart_first a b c d ne = ap (λ (t : Bool). t && (b == d)) (ne_eqb a c ne)

apart_last : (j b d : ℕ) → (b == d) ≡ false → same_place (j, b) (j, d) ≡ false
apart_last j b d differ = go (j == j)
  where
    go : (t : Bool) → (t && (b == d)) ≡ false
    go true = differ
    go false = refl

others_apart : (j o : ℕ) (os : List ℕ) → AllByRecursion (λ y. eqb o y ≡ false) os → AllByRecursion (λ q. same_place (j, o) q ≡ false) (of_stream j os)
others_apart j o [] all = tt
others_apart j o (x ∷ os) all = (apart_last j o x all.0, others_apart j o os all.1)

one_distinct : (j : ℕ) (os : List ℕ) → IsDistinct eqb os → IsDistinct same_place (of_stream j os)
unfolding IsDistinct
one_distinct j [] d = tt
one_distinct j (o ∷ os) d = (others_apart j o os d.0, one_distinct j os d.1)

all_both : (P : ℕ × ℕ → Type 0) (xs ys : List (ℕ × ℕ)) → AllByRecursion P xs → AllByRecursion P ys → AllByRecursion P (xs ++ ys)
all_both P [] ys a b = b
all_both P (x ∷ xs) ys a b = (a.0, all_both P xs ys a.1 b)

distinct_behind : (xs ys : List (ℕ × ℕ)) → IsDistinct same_place xs → IsDistinct same_place ys → ((p q : ℕ × ℕ) → In p xs → In q ys → same_place p q ≡ false) → IsDistinct same_place (xs ++ ys)
unfolding IsDistinct
distinct_behind [] ys d e apart = e
distinct_behind (x ∷ xs) ys d e apart = (all_both (λ q. same_place x q ≡ false) xs ys d.0 (all_among (λ q. same_place x q ≡ false) ys (λ q i. apart x q (inl refl) i)), distinct_behind xs ys d.1 e (λ p q i j. apart p q (inr i) j))

none_distinct : IsDistinct same_place []
unfolding IsDistinct
none_distinct = tt

pub all_distinct : (n : ℕ) (f : ℕ → List ℕ) → ((j : ℕ) → IsDistinct eqb (f j)) → IsDistinct same_place (of_streams n f)
unfolding of_streams
all_distinct zero f each = none_distinct
all_distinct (suc n) f each = distinct_behind (of_stream n (f n)) (of_streams n f) (one_distinct n (f n) (each n)) (all_distinct n f each) (λ p q i j. (
    let here : p.0 ≡ n = (one_of n (f n) p i).0 in
    let less : q.0 < n = (all_of n f q j).0 in
    apart_first p.0 p.1 q.0 q.1 (λ e. (let same : p.0 ≡ q.0 = e in omega arith))))
