-- Streams that aren't done: of so many ids, no two the same, those that a test doesn't hold of are
-- as many as there are less those that it holds of.
use Rattle.std.proofs.Common.{◌≡◌, ℕ, zero, suc, ◌+◌, ◌<◌, ◌≤◌, eqb, Bool, true, false, List, [], ◌∷◌, length, refl, ap, ◌∙◌, inl, inr, arith}
use Rattle.std.specs.Prelude.{◌/◌, ◌^◌, min, max, if◌then◌else◌}
use Rattle.std.specs.List.{IsDistinct, AllByRecursion}
use Rattle.std.proofs.lemmas.Bool.{cases_lt, cases_eq, ne_eqb}
use Rattle.quic_streams_laws.specs.Summed.{sum_below}
use Rattle.quic_streams_laws.specs.SummedLaws.{sum_same}
use Rattle.quic_headline.specs.Runs.{In}
use Rattle.quic_headline.specs.Grown.{HasGrown}
use Rattle.quic_headline.specs.Unread.{least_left}

-- ---- sums

-- one where it is so
abbrev pub as_one : Bool → ℕ
as_one b = if b then 1 else 0

-- one number more
sum_more : (n : ℕ) (f : ℕ → ℕ) → sum_below (suc n) f ≡ f n + sum_below n f
unfolding sum_below
sum_more n f = refl

sum_zero : (f : ℕ → ℕ) → sum_below 0 f ≡ 0
unfolding sum_below
sum_zero f = refl

-- where each is one at most, so is the sum at most as many as there are
pub sum_at_most : (n : ℕ) (test : ℕ → Bool) → sum_below n (λ j. as_one (test j)) ≤ n
sum_at_most zero test = (let none = sum_zero (λ j. as_one (test j)) in omega arith)
sum_at_most (suc n) test =
    let more = sum_more n (λ j. as_one (test j)) in
    let rest = sum_at_most n test in
    let one = at_most (test n) in
    omega arith
  where
    at_most : (b : Bool) → as_one b ≤ 1
    at_most true = omega arith
    at_most false = omega arith

-- two sums that differ at one number, by one at most
pub sum_near : (n at : ℕ) (f g : ℕ → ℕ) → ((j : ℕ) → (j ≡ at → ⊥) → g j ≡ f j) → g at ≤ f at + 1 → sum_below n g ≤ sum_below n f + 1
sum_near zero at f g apart near = (let a = sum_zero f in let b = sum_zero g in omega arith)
sum_near (suc n) at f g apart near = elim (cases_eq n at) [
  | inl same ↦
      let rest : sum_below n g ≡ sum_below n f = sum_same n f g (λ j below. apart j (λ e. (let is : j ≡ at = e in let here : n ≡ at = same in omega arith))) in
      let a = sum_more n f in
      let b = sum_more n g in
      let x : f n ≡ f at = ap f same in
      let y : g n ≡ g at = ap g same in
      omega arith
  | inr ne ↦
      let rest = sum_near n at f g apart near in
      let here : g n ≡ f n = apart n ne in
      let a = sum_more n f in
      let b = sum_more n g in
      omega arith
]

-- ---- ids

all_among : {X : Type 0} (P : X → Type 0) (xs : List X) → ((x : X) → In x xs → P x) → AllByRecursion P xs
all_among P [] each = tt
all_among P (x ∷ xs) each = (each x (inl refl), all_among P xs (λ y i. each y (inr i)))

none_distinct : IsDistinct eqb []
unfolding IsDistinct
none_distinct = tt

distinct_with : (id : ℕ) (ids : List ℕ) → ((y : ℕ) → In y ids → id ≡ y → ⊥) → IsDistinct eqb ids → IsDistinct eqb (id ∷ ids)
unfolding IsDistinct
distinct_with id ids apart d = (all_among (λ y. eqb id y ≡ false) ids (λ y i. ne_eqb id y (apart y i)), d)

module _ (f : ℕ → ℕ) (once : (a b : ℕ) → f a ≡ f b → a ≡ b) (test : ℕ → Bool) where
  -- an id is that of a number below a bound of which the test doesn't hold
  pub record IsOther (n id : ℕ) : Type 0 where
    pub index : ℕ
    pub below : index < n
    pub is : id ≡ f index
    pub fails : test index ≡ false

  -- the ids of those
  pub record Others (n : ℕ) : Type 0 where
    pub ids : List ℕ
    pub distinct : IsDistinct eqb ids
    pub each : (id : ℕ) → In id ids → IsOther n id
    pub many : n ≤ length ids + sum_below n (λ j. as_one (test j))

  further : (n id : ℕ) → IsOther n id → IsOther (suc n) id
  further n id o = (let below = o.below in record { index = o.index; below = omega arith; is = o.is; fails = o.fails })

  pub others : (n : ℕ) → Others n
  others zero = record { ids = []; distinct = none_distinct; each = λ id i. absurd i; many = omega arith }
  others (suc n) = go (others n) (test n) refl
    where
      go : Others n → (b : Bool) → test n ≡ b → Others (suc n)
      go r true is =
          let many = r.many in
          let one : as_one (test n) ≡ 1 = ap as_one is in
          let more = sum_more n (λ j. as_one (test j)) in
          record { ids = r.ids; distinct = r.distinct; each = λ id i. further n id (r.each id i); many = omega arith }
      go r false is =
          let many = r.many in
          let more = sum_more n (λ j. as_one (test j)) in
          record {
            ids = f n ∷ r.ids;
            distinct = distinct_with (f n) r.ids (λ y i e. (let o = r.each y i in let below = o.below in let same : n ≡ o.index = once n o.index (e ∙ o.is) in omega arith)) r.distinct;
            each = λ id i. elim i [ inl here ↦ record { index = n; below = omega arith; is = here; fails = is } | inr there ↦ further n id (r.each id there) ];
            many = omega arith;
          }

-- ---- a limit that didn't grow

-- so many streams of those that were opened aren't done, where the limit on their count didn't grow
pub many_undone : (window done told opened : ℕ) → told ≤ opened → (HasGrown window done (2 ^ 60) told → ⊥) → 0 < window → window ≤ 2 ^ 60 → opened < 2 ^ 59 → least_left window + done ≤ opened
many_undone window done told opened known held some small few = elim (cases_lt (min (window + done) (2 ^ 60)) (told + max (window / 8) 1)) [
  | inl less ↦ omega arith
  | inr more ↦ absurd (held more)
]
