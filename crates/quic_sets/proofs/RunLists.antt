-- Lists of runs: their numbers, by the place of a run, and their parts.
use Rattle.std.proofs.Common.{◌≡◌, ℕ, suc, zero, ◌+◌, ◌≤◌, ◌<◌, ◌⊎◌, List, [], ◌∷◌, ◌++◌, length, take, drop, get_or, refl, sym, ap, ◌∙◌, inl, inr, arith}
use Rattle.std.proofs.lemmas.Bool.{cases_lt}
use Rattle.std.specs.List.{Contains}
use Rattle.std.specs.List.Sorted.{IsNonDecreasingBy}
use Rattle.quic_sets.specs.Runs.{Run, In, Has, AreRunsFrom, AreRuns, AreSame, IsMaximal}

pub lower : (m n : ℕ) (rs : List Run) → n ≤ m → AreRunsFrom m rs → AreRunsFrom n rs
lower m n [] le h = tt
lower m n (r ∷ rs) le h = (omega (arith, h.0), h.1, h.2)

-- no number is below where the runs may begin
pub at_least : (k m : ℕ) (rs : List Run) → AreRunsFrom m rs → Has rs k → m ≤ k
at_least k m [] runs h = absurd h
at_least k m (r ∷ rs) runs h = elim h [ inl i ↦ omega (arith, runs.0, i.0) | inr i ↦ (let le = at_least k (r.end + 1) rs runs.2 i in omega (arith, runs.0, runs.1, le)) ]

-- ---- one list for each set

same_run : (x y : Run) → x.start ≡ y.start → x.end ≡ y.end → x ≡ y
same_run x y s e = ap (λ (n : ℕ). let r : Run = record { start = n; end = x.end } in r) s ∙ ap (λ (n : ℕ). let r : Run = record { start = y.start; end = n } in r) e

-- the first run of one begins no later than that of the other
starts_by : (m n : ℕ) (x y : Run) (xs ys : List Run) → AreRunsFrom m (x ∷ xs) → AreRunsFrom n (y ∷ ys) → AreSame (x ∷ xs) (y ∷ ys) → y.start ≤ x.start
starts_by m n x y xs ys rx ry same = elim ((same x.start).0 (inl (omega arith, rx.1))) [ inl i ↦ i.0 | inr i ↦ (let le = at_least x.start (y.end + 1) ys ry.2 i in omega (arith, ry.1, le)) ]

-- and ends no later, where they begin together
ends_by : (m n : ℕ) (x y : Run) (xs ys : List Run) → AreRunsFrom m (x ∷ xs) → AreRunsFrom n (y ∷ ys) → AreSame (x ∷ xs) (y ∷ ys) → x.start ≡ y.start → y.end ≤ x.end
ends_by m n x y xs ys rx ry same e =
    elim (cases_lt x.end y.end) [
      | inr le ↦ le
      | inl lt ↦ absurd (elim ((same x.end).1 (inl (omega (arith, rx.1), lt))) [
        | inl i ↦ omega (arith, i.1)
        | inr i ↦ (let le = at_least x.end (x.end + 1) xs rx.2 i in omega (arith, le))
      ])
    ]

swapped : (xs ys : List Run) → AreSame xs ys → AreSame ys xs
swapped xs ys same k = ((same k).1, (same k).0)

-- what stands behind the first runs is the same too
tails_same : (m n : ℕ) (x y : Run) (xs ys : List Run) → AreRunsFrom m (x ∷ xs) → AreSame (x ∷ xs) (y ∷ ys) → x.end ≡ y.end → (k : ℕ) → Has xs k → Has ys k
tails_same m n x y xs ys rx same e k h =
    let le = at_least k (x.end + 1) xs rx.2 h in
    elim ((same k).0 (inr h)) [ inl i ↦ absurd (omega (arith, i.1, le)) | inr i ↦ i ]

pub same_list : (m n : ℕ) (xs ys : List Run) → AreRunsFrom m xs → AreRunsFrom n ys → AreSame xs ys → xs ≡ ys
same_list m n [] [] rx ry same = refl
same_list m n [] (y ∷ ys) rx ry same = absurd ((same y.start).1 (inl (omega arith, ry.1)))
same_list m n (x ∷ xs) [] rx ry same = absurd ((same x.start).0 (inl (omega arith, rx.1)))
same_list m n (x ∷ xs) (y ∷ ys) rx ry same =
    let back = swapped (x ∷ xs) (y ∷ ys) same in
    let s1 = starts_by m n x y xs ys rx ry same in
    let s2 = starts_by n m y x ys xs ry rx back in
    let s : x.start ≡ y.start = omega (arith, s1, s2) in
    let e1 = ends_by m n x y xs ys rx ry same s in
    let e2 = ends_by n m y x ys xs ry rx back (sym s) in
    let e : x.end ≡ y.end = omega (arith, e1, e2) in
    let rest : xs ≡ ys = same_list (x.end + 1) (y.end + 1) xs ys rx.2 ry.2 (λ k. (tails_same m n x y xs ys rx same e k, tails_same n m y x ys xs ry back (sym e) k)) in
    ap (λ (r : Run). r ∷ xs) (same_run x y s e) ∙ ap (λ (rs : List Run). y ∷ rs) rest

-- ---- runs by their place

pub has_at : (rs : List Run) (i k : ℕ) (d : Run) → i < length rs → In k (get_or rs i d) → Has rs k
has_at [] i k d lt h = absurd (omega arith)
has_at (r ∷ rs) zero k d lt h = inl h
has_at (r ∷ rs) (suc i) k d lt h = inr (has_at rs i k d (omega arith) h)

pub at_has : (rs : List Run) (k : ℕ) (d : Run) → Has rs k → (i : ℕ) × (i < length rs) × In k (get_or rs i d)
at_has [] k d h = absurd h
at_has (r ∷ rs) k d h = elim h [ inl i ↦ (0, omega arith, i) | inr i ↦ (let w = at_has rs k d i in (suc w.0, omega (arith, w.1), w.2)) ]

pub starts_from : (n : ℕ) (rs : List Run) (j : ℕ) (d : Run) → AreRunsFrom n rs → j < length rs → n ≤ (get_or rs j d).start
starts_from n [] j d runs lt = absurd (omega arith)
starts_from n (r ∷ rs) zero d runs lt = runs.0
starts_from n (r ∷ rs) (suc j) d runs lt = let le = starts_from (r.end + 1) rs j d runs.2 (omega arith) in omega (arith, runs.0, runs.1, le)

pub filled : (n : ℕ) (rs : List Run) (j : ℕ) (d : Run) → AreRunsFrom n rs → j < length rs → (get_or rs j d).start < (get_or rs j d).end
filled n [] j d runs lt = absurd (omega arith)
filled n (r ∷ rs) zero d runs lt = runs.1
filled n (r ∷ rs) (suc j) d runs lt = filled (r.end + 1) rs j d runs.2 (omega arith)

pub ordered : (n : ℕ) (rs : List Run) (i j : ℕ) (d : Run) → AreRunsFrom n rs → i < j → j < length rs → (get_or rs i d).end < (get_or rs j d).start
ordered n [] i j d runs lt within = absurd (omega arith)
ordered n (r ∷ rs) i zero d runs lt within = absurd (omega arith)
ordered n (r ∷ rs) zero (suc j) d runs lt within = let le = starts_from (r.end + 1) rs j d runs.2 (omega arith) in omega (arith, le)
ordered n (r ∷ rs) (suc i) (suc j) d runs lt within = ordered (r.end + 1) rs i j d runs.2 (omega arith) (omega arith)

pub ends_rise : (rs : List Run) → AreRuns rs → IsNonDecreasingBy (λ (r : Run). r.end) rs
ends_rise rs runs i j d le within =
    elim (cases_lt i j) [
      | inl lt ↦ (let o = ordered 0 rs i j d runs lt within in let f = filled 0 rs j d runs within in omega (arith, o, f))
      | inr ge ↦ (let same : i ≡ j = omega arith in rw same (omega arith))
    ]

pub starts_rise : (rs : List Run) → AreRuns rs → IsNonDecreasingBy (λ (r : Run). r.start) rs
starts_rise rs runs i j d le within =
    elim (cases_lt i j) [
      | inl lt ↦ (let o = ordered 0 rs i j d runs lt within in let f = filled 0 rs i d runs (omega arith) in omega (arith, o, f))
      | inr ge ↦ (let same : i ≡ j = omega arith in rw same (omega arith))
    ]

pub maximal_at : (rs : List Run) (i : ℕ) (d : Run) → AreRuns rs → i < length rs → IsMaximal rs (get_or rs i d)
maximal_at rs i d runs lt =
    let end : Has rs (get_or rs i d).end → ⊥ = λ h. (let w = at_has rs (get_or rs i d).end d h in
    elim (cases_lt w.0 i) [
      | inl under ↦ (let o = ordered 0 rs w.0 i d runs under lt in let f = filled 0 rs i d runs lt in omega (arith, o, f, w.2))
      | inr le ↦ elim (cases_lt i w.0) [
        | inl over ↦ (let o = ordered 0 rs i w.0 d runs over w.1 in omega (arith, o, w.2))
        | inr ge ↦ (let same : w.0 ≡ i = omega arith in let it = rw same at w.2 in omega (arith, it))
      ]
    ]) in
    let start : (k : ℕ) → k + 1 ≡ (get_or rs i d).start → Has rs k → ⊥ = λ k e h. (let w = at_has rs k d h in
    elim (cases_lt w.0 i) [
      | inl under ↦ (let o = ordered 0 rs w.0 i d runs under lt in omega (arith, o, e, w.2))
      | inr le ↦ elim (cases_lt i w.0) [
        | inl over ↦ (let o = ordered 0 rs i w.0 d runs over w.1 in let f = filled 0 rs i d runs lt in omega (arith, o, f, e, w.2))
        | inr ge ↦ (let same : w.0 ≡ i = omega arith in let it = rw same at w.2 in omega (arith, e, it))
      ]
    ]) in
    (end, start)

pub maximal : (rs : List Run) (r : Run) → AreRuns rs → Contains rs r → IsMaximal rs r
maximal rs r runs h = rw h.2 at (maximal_at rs h.0 r runs h.1)

-- ---- parts of a list

pub has_left : (xs ys : List Run) (k : ℕ) → Has xs k → Has (xs ++ ys) k
has_left [] ys k h = absurd h
has_left (x ∷ xs) ys k h = elim h [ inl i ↦ inl i | inr i ↦ inr (has_left xs ys k i) ]

pub has_right : (xs ys : List Run) (k : ℕ) → Has ys k → Has (xs ++ ys) k
has_right [] ys k h = h
has_right (x ∷ xs) ys k h = inr (has_right xs ys k h)

pub has_either : (xs ys : List Run) (k : ℕ) → Has (xs ++ ys) k → Has xs k ⊎ Has ys k
has_either [] ys k h = inr h
has_either (x ∷ xs) ys k h = elim h [ inl i ↦ inl (inl i) | inr i ↦ elim (has_either xs ys k i) [ inl j ↦ inl (inr j) | inr j ↦ inr j ] ]

pub in_take : (rs : List Run) (n i k : ℕ) (d : Run) → i < n → i < length rs → In k (get_or rs i d) → Has (take n rs) k
in_take [] n i k d lt within h = absurd (omega arith)
in_take (r ∷ rs) zero i k d lt within h = absurd (omega arith)
in_take (r ∷ rs) (suc n) zero k d lt within h = inl h
in_take (r ∷ rs) (suc n) (suc i) k d lt within h = inr (in_take rs n i k d (omega arith) (omega arith) h)

pub take_has : (rs : List Run) (n k : ℕ) (d : Run) → Has (take n rs) k → (i : ℕ) × (i < n) × (i < length rs) × In k (get_or rs i d)
take_has rs zero k d h = absurd h
take_has [] (suc n) k d h = absurd h
take_has (r ∷ rs) (suc n) k d h = elim h [ inl i ↦ (0, omega arith, omega arith, i) | inr i ↦ (let w = take_has rs n k d i in (suc w.0, omega (arith, w.1), omega (arith, w.2), w.3)) ]

pub in_drop : (rs : List Run) (n i k : ℕ) (d : Run) → n ≤ i → i < length rs → In k (get_or rs i d) → Has (drop n rs) k
in_drop rs zero i k d le within h = has_at rs i k d within h
in_drop [] (suc n) i k d le within h = absurd (omega arith)
in_drop (r ∷ rs) (suc n) zero k d le within h = absurd (omega arith)
in_drop (r ∷ rs) (suc n) (suc i) k d le within h = in_drop rs n i k d (omega arith) (omega arith) h

pub drop_has : (rs : List Run) (n k : ℕ) (d : Run) → Has (drop n rs) k → (i : ℕ) × (n ≤ i) × (i < length rs) × In k (get_or rs i d)
drop_has rs zero k d h = let w = at_has rs k d h in (w.0, omega arith, w.1, w.2)
drop_has [] (suc n) k d h = absurd h
drop_has (r ∷ rs) (suc n) k d h = let w = drop_has rs n k d h in (suc w.0, omega (arith, w.1), omega (arith, w.2), w.3)

-- where a run may begin that comes behind the list
abbrev pub after : ℕ → List Run → ℕ
after n [] = n
after n (r ∷ rs) = after (r.end + 1) rs

pub joined : (n : ℕ) (xs ys : List Run) → AreRunsFrom n xs → AreRunsFrom (after n xs) ys → AreRunsFrom n (xs ++ ys)
joined n [] ys rx ry = ry
joined n (x ∷ xs) ys rx ry = (rx.0, rx.1, joined (x.end + 1) xs ys rx.2 ry)

pub taken : (n : ℕ) (rs : List Run) (i : ℕ) → AreRunsFrom n rs → AreRunsFrom n (take i rs)
taken n rs zero runs = tt
taken n [] (suc i) runs = tt
taken n (r ∷ rs) (suc i) runs = (runs.0, runs.1, taken (r.end + 1) rs i runs.2)

pub after_taken : (n m : ℕ) (rs : List Run) (i : ℕ) (d : Run) → n ≤ m → ((j : ℕ) → j < i → j < length rs → (get_or rs j d).end < m) → after n (take i rs) ≤ m
after_taken n m rs zero d le h = le
after_taken n m [] (suc i) d le h = le
after_taken n m (r ∷ rs) (suc i) d le h =
    let first = h 0 (omega arith) (omega arith) in
    after_taken (r.end + 1) m rs i d (omega (arith, first)) (λ j lt within. h (suc j) (omega arith) (omega arith))

pub dropped : (n m : ℕ) (rs : List Run) (i : ℕ) (d : Run) → AreRunsFrom n rs → ((j : ℕ) → i ≤ j → j < length rs → m ≤ (get_or rs j d).start) → AreRunsFrom m (drop i rs)
dropped n m [] zero d runs h = tt
dropped n m (r ∷ rs) zero d runs h = let first = h 0 (omega arith) (omega arith) in (first, runs.1, runs.2)
dropped n m [] (suc i) d runs h = tt
dropped n m (r ∷ rs) (suc i) d runs h = dropped (r.end + 1) m rs i d runs.2 (λ j le within. h (suc j) (omega arith) (omega arith))
