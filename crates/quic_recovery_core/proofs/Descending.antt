-- Lists of numbers that descend: a set has one.
use Rattle.std.proofs.Common.{◌≡◌, ℕ, ◌≤◌, ◌<◌, ◌⊎◌, Bool, true, false, List, [], ◌∷◌, refl, sym, ap, ◌∙◌, subst, inl, inr, arith}
use Rattle.std.specs.Prelude.{◌==◌, nat_lt, filter}
use Rattle.std.specs.Bool.{Decides}
use Rattle.std.proofs.lemmas.Bool.{cases_lt, cases_Bool, eqb-true, eq-eqb, or_cases, or_left, or_right, cond-true, cond-false}
use Rattle.quic_recovery_core.specs.Duplicates.{is_in, put}

-- the number is among them
abbrev pub In : ℕ → List ℕ → Type 0
In k [] = ⊥
In k (n ∷ ns) = (k ≡ n) ⊎ In k ns

-- each is below the one before, the first below the bound
abbrev pub Descend : ℕ → List ℕ → Type 0
Descend b [] = Unit {0}
Descend b (n ∷ ns) = (n < b) × Descend n ns

pub is_in-tells : (ns : List ℕ) (k : ℕ) → is_in ns k ≡ true → In k ns
is_in-tells [] k e = absurd cc
is_in-tells (n ∷ ns) k e = elim (or_cases (k == n) (is_in ns k) e) [ inl h ↦ inl (eqb-true k n h) | inr t ↦ inr (is_in-tells ns k t) ]

pub in-is_in : (ns : List ℕ) (k : ℕ) → In k ns → is_in ns k ≡ true
in-is_in [] k h = absurd h
in-is_in (n ∷ ns) k (inl e) = or_left (k == n) (is_in ns k) (eq-eqb k n e)
in-is_in (n ∷ ns) k (inr h) = or_right (k == n) (is_in ns k) (in-is_in ns k h)

pub is_in-decides : (ns : List ℕ) (k : ℕ) → Decides (is_in ns k) (In k ns)
is_in-decides ns k = (is_in-tells ns k, in-is_in ns k)

pub descend_more : (a b : ℕ) (ns : List ℕ) → a ≤ b → Descend a ns → Descend b ns
descend_more a b [] le h = tt
descend_more a b (n ∷ ns) le h = (omega (arith, h.0), h.1)

pub below_bound : (k b : ℕ) (ns : List ℕ) → Descend b ns → In k ns → k < b
below_bound k b [] d h = absurd h
below_bound k b (n ∷ ns) d (inl e) = omega (arith, d.0, e)
below_bound k b (n ∷ ns) d (inr h) = let lt = below_bound k n ns d.1 h in omega (arith, d.0, lt)

-- ---- one list for each set

first_by : (a b x y : ℕ) (xs ys : List ℕ) → Descend b (y ∷ ys) → In x (y ∷ ys) → x ≤ y
first_by a b x y xs ys d (inl e) = omega (arith, e)
first_by a b x y xs ys d (inr h) = let lt = below_bound x y ys d.1 h in omega (arith, lt)

rest_in : (x y k : ℕ) (xs ys : List ℕ) → Descend x xs → x ≡ y → (In k (x ∷ xs) → In k (y ∷ ys)) → In k xs → In k ys
rest_in x y k xs ys d e f h = elim (f (inr h)) [
  | inl same ↦ absurd (let lt = below_bound k x xs d h in omega (arith, lt, same, e))
  | inr i ↦ i
]

pub same_list : (a b : ℕ) (xs ys : List ℕ) → Descend a xs → Descend b ys → ((k : ℕ) → In k xs → In k ys) → ((k : ℕ) → In k ys → In k xs) → xs ≡ ys
same_list a b [] [] dx dy f g = refl
same_list a b [] (y ∷ ys) dx dy f g = absurd (g y (inl refl))
same_list a b (x ∷ xs) [] dx dy f g = absurd (f x (inl refl))
same_list a b (x ∷ xs) (y ∷ ys) dx dy f g =
    let le1 = first_by a b x y xs ys dy (f x (inl refl)) in
    let le2 = first_by b a y x ys xs dx (g y (inl refl)) in
    let e : x ≡ y = omega (arith, le1, le2) in
    let rest : xs ≡ ys = same_list x y xs ys dx.1 dy.1 (λ k. rest_in x y k xs ys dx.1 e (f k)) (λ k. rest_in y x k ys xs dy.1 (sym e) (g k)) in
    ap (λ (n : ℕ). n ∷ xs) e ∙ ap (λ (ns : List ℕ). y ∷ ns) rest

-- ---- a number put in

pub put-first : (n k : ℕ) (ks : List ℕ) → k < n → put n (k ∷ ks) ≡ n ∷ k ∷ ks
put-first n k ks lt = let e : nat_lt k n ≡ true = grind arith in cond-true (nat_lt k n) (n ∷ k ∷ ks) (k ∷ put n ks) e

pub put-later : (n k : ℕ) (ks : List ℕ) → n ≤ k → put n (k ∷ ks) ≡ k ∷ put n ks
put-later n k ks le = let e : nat_lt k n ≡ false = grind arith in cond-false (nat_lt k n) (n ∷ k ∷ ks) (k ∷ put n ks) e

pub in_put : (n k : ℕ) (ns : List ℕ) → In k (put n ns) → (k ≡ n) ⊎ In k ns
in_put n k [] (inl e) = inl e
in_put n k [] (inr h) = absurd h
in_put n k (m ∷ ms) h = elim (cases_lt m n) [
  | inl lt ↦ subst (λ (xs : List ℕ). In k xs) (put-first n m ms lt) h
  | inr le ↦ elim (subst (λ (xs : List ℕ). In k xs) (put-later n m ms le) h) [
    | inl e ↦ inr (inl e)
    | inr t ↦ elim (in_put n k ms t) [ inl e ↦ inl e | inr i ↦ inr (inr i) ]
  ]
]

pub put_in : (n k : ℕ) (ns : List ℕ) → (k ≡ n) ⊎ In k ns → In k (put n ns)
put_in n k [] (inl e) = inl e
put_in n k [] (inr h) = absurd h
put_in n k (m ∷ ms) h = elim (cases_lt m n) [
  | inl lt ↦ subst (λ (xs : List ℕ). In k xs) (sym (put-first n m ms lt)) h
  | inr le ↦ subst (λ (xs : List ℕ). In k xs) (sym (put-later n m ms le)) (elim h [
    | inl e ↦ inr (put_in n k ms (inl e))
    | inr t ↦ elim t [ inl e ↦ inl e | inr i ↦ inr (put_in n k ms (inr i)) ]
  ])
]

pub put_descends : (b n : ℕ) (ns : List ℕ) → Descend b ns → n < b → (In n ns → ⊥) → Descend b (put n ns)
put_descends b n [] d lt new = (lt, tt)
put_descends b n (m ∷ ms) d lt new = elim (cases_lt m n) [
  | inl above ↦ subst (λ (xs : List ℕ). Descend b xs) (sym (put-first n m ms above)) (lt, (above, d.1))
  | inr le ↦ (let other : n ≡ m → ⊥ = λ e. new (inl e) in
      let under : n < m = omega (arith, le, other) in
      subst (λ (xs : List ℕ). Descend b xs) (sym (put-later n m ms le)) (d.0, put_descends m n ms d.1 under (λ h. new (inr h))))
]

-- ---- numbers that pass a test

filter-passing : (p : ℕ → Bool) (n : ℕ) (ns : List ℕ) → p n ≡ true → filter p (n ∷ ns) ≡ n ∷ filter p ns
filter-passing p n ns e = cond-true (p n) (n ∷ filter p ns) (filter p ns) e

filter-failing : (p : ℕ → Bool) (n : ℕ) (ns : List ℕ) → p n ≡ false → filter p (n ∷ ns) ≡ filter p ns
filter-failing p n ns e = cond-false (p n) (n ∷ filter p ns) (filter p ns) e

pub in_filter : (p : ℕ → Bool) (k : ℕ) (ns : List ℕ) → In k (filter p ns) → (p k ≡ true) × In k ns
in_filter p k [] h = absurd h
in_filter p k (n ∷ ns) h = elim (cases_Bool (p n)) [
  | inl passes ↦ elim (subst (λ (xs : List ℕ). In k xs) (filter-passing p n ns passes) h) [
    | inl e ↦ (ap p e ∙ passes, inl e)
    | inr t ↦ (let i = in_filter p k ns t in (i.0, inr i.1))
  ]
  | inr fails ↦ (let i = in_filter p k ns (subst (λ (xs : List ℕ). In k xs) (filter-failing p n ns fails) h) in (i.0, inr i.1))
]

pub filter_in : (p : ℕ → Bool) (k : ℕ) (ns : List ℕ) → p k ≡ true → In k ns → In k (filter p ns)
filter_in p k [] e h = absurd h
filter_in p k (n ∷ ns) e h = elim (cases_Bool (p n)) [
  | inl passes ↦ subst (λ (xs : List ℕ). In k xs) (sym (filter-passing p n ns passes)) (elim h [ inl is ↦ inl is | inr t ↦ inr (filter_in p k ns e t) ])
  | inr fails ↦ subst (λ (xs : List ℕ). In k xs) (sym (filter-failing p n ns fails)) (elim h [
    | inl is ↦ absurd (let t : p n ≡ true = sym (ap p is) ∙ e in cc)
    | inr t ↦ filter_in p k ns e t
  ])
]

pub filter_descends : (p : ℕ → Bool) (b : ℕ) (ns : List ℕ) → Descend b ns → Descend b (filter p ns)
filter_descends p b [] d = tt
filter_descends p b (n ∷ ns) d = elim (cases_Bool (p n)) [
  | inl passes ↦ subst (λ (xs : List ℕ). Descend b xs) (sym (filter-passing p n ns passes)) (d.0, filter_descends p n ns d.1)
  | inr fails ↦ subst (λ (xs : List ℕ). Descend b xs) (sym (filter-failing p n ns fails)) (descend_more n b (filter p ns) (omega (arith, d.0)) (filter_descends p n ns d.1))
]
