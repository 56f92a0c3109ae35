-- Where a range is joined to runs, by the counts of runs.
use Rattle.std.proofs.Common.{◌≡◌, ℕ, zero, suc, ◌+◌, ◌-◌, ◌≤◌, ◌<◌, Bool, true, false, ltb, leb, cond, min, max, List, [], ◌∷◌, ◌++◌, length, get_or, take, drop, set, refl, sym, ap, subst, ◌∙◌, append_assoc, inl, inr, arith}
use Rattle.std.proofs.Math.Seq.{drop-cons}
use Rattle.std.proofs.lemmas.Bool.{cases_lt, lt-ltb, le-ltb, le-leb, lt-leb}
use Rattle.std.proofs.lemmas.List.Sums.{prefix_len_is}
use Rattle.std.proofs.lemmas.List.{get_or_default, get_or-drop, length-drop, drop-drop, drop-set-lt}
use Rattle.std.proofs.lemmas.Grind.{take-set_at}
use Rattle.std.specs.List.{prefix_len, insert, remove_range}
use Rattle.std.specs.List.Sorted.{IsNonDecreasingBy, IsPartitionPoint}
use Rattle.quic_sets.specs.Runs.{Run, AreRunsFrom, AreRuns}
use Rattle.quic_sets.specs.Pieces.{joining, with_range, joined, count_below, count_started, count_met}
use Rattle.quic_sets.proofs.Joining.{lower, with_range_runs}

module _ {X : Type 0} (p : X → Bool) where
  pub count_yes : (x : X) (xs : List X) → p x ≡ true → prefix_len p (x ∷ xs) ≡ suc (prefix_len p xs)
  count_yes x xs e = ap (λ b. cond b (1 + prefix_len p xs) 0) e ∙ omega arith

  pub count_no : (x : X) (xs : List X) → p x ≡ false → prefix_len p (x ∷ xs) ≡ 0
  count_no x xs e = ap (λ b. cond b (1 + prefix_len p xs) 0) e

abbrev pub span : ℕ → ℕ → Run
span a b = record { start = a; end = b }

spans : (a b c d : ℕ) → a ≡ c → b ≡ d → span a b ≡ span c d
spans a b c d e f = ap (λ n. span n b) e ∙ ap (λ n. span c n) f

-- the runs that end below a stand in front
pub skips : (a b : ℕ) (rs : List Run) → with_range a b rs ≡ take (count_below a rs) rs ++ joining a b (drop (count_below a rs) rs)
unfolding with_range
skips a b [] = refl
skips a b (r ∷ rs) = elim (cases_lt r.end a) [
  | inl lt ↦
      (let head : with_range a b (r ∷ rs) ≡ r ∷ with_range a b rs = rw (lt-ltb r.end a lt) refl in
      let count = count_yes (λ (x : Run). ltb x.end a) r rs (lt-ltb r.end a lt) in
      head ∙ ap (λ (xs : List Run). r ∷ xs) (skips a b rs) ∙ sym (ap (λ n. take n (r ∷ rs) ++ joining a b (drop n (r ∷ rs))) count))
  | inr le ↦
      (let head : with_range a b (r ∷ rs) ≡ joining a b (r ∷ rs) = rw (le-ltb r.end a le) refl in
      let count = count_no (λ (x : Run). ltb x.end a) r rs (le-ltb r.end a le) in
      head ∙ sym (ap (λ n. take n (r ∷ rs) ++ joining a b (drop n (r ∷ rs))) count))
]

-- no run starts at b or below
pub joins_none : (a b : ℕ) (rs : List Run) → count_started b rs ≡ 0 → joining a b rs ≡ span a b ∷ rs
unfolding joining
joins_none a b [] e = refl
joins_none a b (r ∷ rs) e = elim (cases_lt b r.start) [
  | inl lt ↦ rw (lt-ltb b r.start lt) refl
  | inr le ↦ absurd (let count = count_yes (λ (x : Run). leb x.start b) r rs (le-leb r.start b le) in let zero_is = sym e ∙ count in cc)
]

-- the run from a up to b with each of the runs joined to it
abbrev hull : ℕ → ℕ → List Run → Run
hull a b [] = span a b
hull a b (r ∷ rs) = hull (min a r.start) (max b r.end) rs

same_count : (m b e : ℕ) (rs : List Run) → e < m → AreRunsFrom m rs → count_started (max b e) rs ≡ count_started b rs
same_count m b e [] lt h = refl
same_count m b e (r ∷ rs) lt h = elim (cases_lt b r.start) [
  | inl above ↦ count_no (λ (x : Run). leb x.start (max b e)) r rs (lt-leb r.start (max b e) (omega (arith, h.0))) ∙ sym (count_no (λ (x : Run). leb x.start b) r rs (lt-leb r.start b above))
  | inr le ↦ count_yes (λ (x : Run). leb x.start (max b e)) r rs (le-leb r.start (max b e) (omega arith))
      ∙ ap (λ n. suc n) (same_count (r.end + 1) b e rs (omega (arith, h.0, h.1)) h.2)
      ∙ sym (count_yes (λ (x : Run). leb x.start b) r rs (le-leb r.start b le))
]

same_count_behind : (b e : ℕ) (rs : List Run) → AreRunsFrom (e + 1) rs → count_started (max b e) rs ≡ count_started b rs
same_count_behind b e rs h = same_count (e + 1) b e rs (omega arith) h

-- the runs that start at b or below are joined, and those behind stay
pub joins : (m a b : ℕ) (rs : List Run) → AreRunsFrom m rs → joining a b rs ≡ hull a b (take (count_started b rs) rs) ∷ drop (count_started b rs) rs
unfolding joining
joins m a b [] h = refl
joins m a b (r ∷ rs) h = elim (cases_lt b r.start) [
  | inl lt ↦
      (let head : joining a b (r ∷ rs) ≡ span a b ∷ (r ∷ rs) = rw (lt-ltb b r.start lt) refl in
      let count = count_no (λ (x : Run). leb x.start b) r rs (lt-leb r.start b lt) in
      head ∙ sym (ap (λ n. hull a b (take n (r ∷ rs)) ∷ drop n (r ∷ rs)) count))
  | inr le ↦
      (let head : joining a b (r ∷ rs) ≡ joining (min a r.start) (max b r.end) rs = rw (le-ltb b r.start le) refl in
      let count = count_yes (λ (x : Run). leb x.start b) r rs (le-leb r.start b le) in
      head ∙ joins (r.end + 1) (min a r.start) (max b r.end) rs h.2
      ∙ ap (λ n. hull (min a r.start) (max b r.end) (take n rs) ∷ drop n rs) (same_count_behind b r.end rs h.2)
      ∙ sym (ap (λ n. hull a b (take n (r ∷ rs)) ∷ drop n (r ∷ rs)) count))
]

end_above : (m n : ℕ) (r : Run) (rs : List Run) (d : Run) → AreRunsFrom m (r ∷ rs) → n ≤ length rs → m ≤ (get_or (r ∷ rs) n d).end
end_above m zero r rs d h le = omega (arith, h.0, h.1)
end_above m (suc n) r [] d h le = absurd (omega arith)
end_above m (suc n) r (s ∷ rs) d h le =
    let above = end_above (r.end + 1) n s rs d h.2 (omega arith) in
    omega (arith, above, h.0, h.1)

-- the hull goes from the first start to the last end
hull_is : (m n a b : ℕ) (r : Run) (rs : List Run) (d : Run) → AreRunsFrom m (r ∷ rs) → n ≤ length rs → hull a b (r ∷ take n rs) ≡ span (min a r.start) (max b (get_or (r ∷ rs) n d).end)
hull_is m zero a b r rs d h le = refl
hull_is m (suc n) a b r [] d h le = absurd (omega arith)
hull_is m (suc n) a b r (s ∷ rs) d h le =
    let above = end_above (r.end + 1) n s rs d h.2 (omega arith) in
    let runs = h.2 in
    let last = (get_or (s ∷ rs) n d).end in
    let low : min (min a r.start) s.start ≡ min a r.start = omega (arith, runs.0, h.1) in
    let high : max (max b r.end) last ≡ max b last = omega (arith, above) in
    hull_is (r.end + 1) n (min a r.start) (max b r.end) s rs d h.2 (omega arith)
    ∙ spans (min (min a r.start) s.start) (max (max b r.end) last) (min a r.start) (max b last) low high

pub runs_behind : (i m : ℕ) (rs : List Run) → AreRunsFrom m rs → AreRunsFrom m (drop i rs)
runs_behind zero m rs h = h
runs_behind (suc i) m [] h = h
runs_behind (suc i) m (r ∷ rs) h = lower (r.end + 1) m (drop i rs) (omega (arith, h.0, h.1)) (runs_behind i (r.end + 1) rs h.2)

-- the run at i with the range and the following runs joined to it, in place of n runs
pub joined_at : (a b i n : ℕ) (rs : List Run) (d : Run) → AreRuns rs → a < b → i ≡ count_below a rs → suc n ≡ count_started b (drop i rs) → i + n < length rs
    → remove_range (set rs i (span (min a (get_or rs i d).start) (max b (get_or rs (i + n) d).end))) (i + 1) (i + suc n) ≡ joined a b rs
unfolding joined
joined_at a b i n rs d h ab front met le =
    let r = get_or rs i d in
    let l = get_or rs (i + n) d in
    let zs = drop (suc i) rs in
    let new = span (min a r.start) (max b l.end) in
    let here : drop i rs ≡ r ∷ zs = drop-cons rs i d (omega arith) in
    let runs : AreRunsFrom 0 (r ∷ zs) = subst (AreRunsFrom 0) here (runs_behind i 0 rs h) in
    let room : n ≤ length zs = omega (arith, length-drop (suc i) rs, le) in
    let last : get_or (r ∷ zs) n d ≡ l = ap (λ (xs : List Run). get_or xs n d) (sym here) ∙ get_or-drop i rs n d in
    let whole : hull a b (take (suc n) (drop i rs)) ≡ new = ap (λ (xs : List Run). hull a b (take (suc n) xs)) here ∙ hull_is 0 n a b r zs d runs room ∙ ap (λ (x : Run). span (min a r.start) (max b x.end)) last in
    let some : ltb 0 (count_met a b rs) ≡ true = subst (λ k. ltb 0 (count_started b (drop k rs)) ≡ true) front (lt-ltb 0 (count_started b (drop i rs)) (omega arith)) in
    let is : joined a b rs ≡ with_range a b rs = rw (lt-ltb a b ab, some) refl in
    let parts : with_range a b rs ≡ take i rs ++ joining a b (drop i rs) = skips a b rs ∙ ap (λ k. take k rs ++ joining a b (drop k rs)) (sym front) in
    let middle : joining a b (drop i rs) ≡ new ∷ drop (suc n) (drop i rs) = joins 0 a b (drop i rs) (runs_behind i 0 rs h) ∙ ap (λ k. hull a b (take k (drop i rs)) ∷ drop k (drop i rs)) (sym met) ∙ ap (λ (x : Run). x ∷ drop (suc n) (drop i rs)) whole in
    let kept_front : take (i + 1) (set rs i new) ≡ take i rs ++ new ∷ [] = take-set_at rs i (i + 1) new refl (omega (arith, le)) in
    let kept_back : drop (i + suc n) (set rs i new) ≡ drop (suc n) (drop i rs) = drop-set-lt (i + suc n) rs i new (omega arith) ∙ sym (drop-drop (suc n) i rs) in
    ap (λ (xs : List Run). xs ++ drop (i + suc n) (set rs i new)) kept_front
    ∙ append_assoc (take i rs) (new ∷ []) (drop (i + suc n) (set rs i new))
    ∙ ap (λ (xs : List Run). take i rs ++ new ∷ xs) kept_back
    ∙ sym (is ∙ parts ∙ ap (λ (xs : List Run). take i rs ++ xs) middle)

pub joined_count : (a b i k : ℕ) (rs : List Run) (d : Run) → AreRuns rs → a < b → i ≡ count_below a rs → k ≡ count_started b (drop i rs) → 0 < k → i + k ≤ length rs
    → remove_range (set rs i (span (min a (get_or rs i d).start) (max b (get_or rs (i + k - 1) d).end))) (i + 1) (i + k) ≡ joined a b rs
joined_count a b i zero rs d h ab front met lt le = absurd (omega arith)
joined_count a b i (suc n) rs d h ab front met lt le =
    let place : i + suc n - 1 ≡ i + n = omega arith in
    ap (λ j. remove_range (set rs i (span (min a (get_or rs i d).start) (max b (get_or rs j d).end))) (i + 1) (i + suc n)) place
    ∙ joined_at a b i n rs d h ab front met (omega arith)

pub joined_with : (a b i k s e : ℕ) (rs : List Run) (r l : Run) → AreRuns rs → a < b → i ≡ count_below a rs → k ≡ count_started b (drop i rs) → 0 < k → i + k ≤ length rs
    → r ≡ get_or rs i r → l ≡ get_or rs (i + k - 1) l → s ≡ min a r.start → e ≡ max b l.end
    → remove_range (set rs i (span s e)) (i + 1) (i + k) ≡ joined a b rs
joined_with a b i k s e rs r l h ab front met lt le is_first is_last is_start is_end =
    let first : s ≡ min a (get_or rs i r).start = is_start ∙ ap (λ (x : Run). min a x.start) is_first in
    let last : e ≡ max b (get_or rs (i + k - 1) r).end = is_end ∙ ap (λ (x : Run). max b x.end) (is_last ∙ get_or_default rs (i + k - 1) l r (omega (arith, lt, le))) in
    ap (λ (x : Run). remove_range (set rs i x) (i + 1) (i + k)) (spans s e (min a (get_or rs i r).start) (max b (get_or rs (i + k - 1) r).end) first last)
    ∙ joined_count a b i k rs r h ab front met lt le

-- where there is none to join, the runs stay
pub joined_none : (a b : ℕ) (rs : List Run) → count_met a b rs ≡ 0 → joined a b rs ≡ rs
unfolding joined
joined_none a b rs e = let none : ltb 0 (count_met a b rs) ≡ false = le-ltb 0 (count_met a b rs) (omega (arith, e)) in elim (cases_lt a b) [ inl lt ↦ rw (lt-ltb a b lt, none) refl | inr le ↦ rw (le-ltb a b le) refl ]

pub joined_empty : (a b : ℕ) (rs : List Run) → b ≤ a → joined a b rs ≡ rs
unfolding joined
joined_empty a b rs le = rw (le-ltb a b le) refl

pub joined_some : (a b : ℕ) (rs : List Run) → a < b → 0 < count_met a b rs → joined a b rs ≡ with_range a b rs
unfolding joined
joined_some a b rs ab lt = rw (lt-ltb a b ab, lt-ltb 0 (count_met a b rs) lt) refl

-- where the range meets and touches no run, it stands as one
pub put_is : (a b : ℕ) (rs : List Run) → count_met a b rs ≡ 0 → insert rs (count_below a rs) (span a b) ≡ with_range a b rs
put_is a b rs e = sym (skips a b rs ∙ ap (λ (xs : List Run). take (count_below a rs) rs ++ xs) (joins_none a b (drop (count_below a rs) rs) e))

pub put_at : (a b i n : ℕ) (rs : List Run) → i ≡ count_below a rs → n ≡ count_started b (drop i rs) → n ≡ 0 → (count_met a b rs ≡ 0) × (insert rs i (span a b) ≡ with_range a b rs)
put_at a b i n rs front count none =
    let met : count_met a b rs ≡ 0 = ap (λ k. count_started b (drop k rs)) (sym front) ∙ sym count ∙ none in
    (met, ap (λ k. insert rs k (span a b)) front ∙ put_is a b rs met)

pub met_at : (a b i n : ℕ) (rs : List Run) → i ≡ count_below a rs → n ≡ count_started b (drop i rs) → count_met a b rs ≡ n
met_at a b i n rs front count = ap (λ k. count_started b (drop k rs)) (sym front) ∙ sym count

-- the set stays a set
pub joined_runs : (a b : ℕ) (rs : List Run) → AreRuns rs → AreRuns (joined a b rs)
joined_runs a b rs h = elim (cases_lt a b) [
  | inl ab ↦ elim (cases_lt 0 (count_met a b rs)) [
    | inl met ↦ rw (joined_some a b rs ab met) (with_range_runs 0 a b rs (omega arith) ab h)
    | inr le ↦ rw (joined_none a b rs (omega arith)) h
  ]
  | inr le ↦ rw (joined_empty a b rs le) h
]

-- ---- the counts by a search

at_least : (m : ℕ) (rs : List Run) → AreRunsFrom m rs → (j : ℕ) (d : Run) → j < length rs → (m ≤ (get_or rs j d).start) × ((get_or rs j d).start < (get_or rs j d).end)
at_least m [] h j d lt = absurd (omega arith)
at_least m (r ∷ rs) h zero d lt = (h.0, h.1)
at_least m (r ∷ rs) h (suc j) d lt = let p = at_least (r.end + 1) rs h.2 j d (omega arith) in (omega (arith, p.0, h.0, h.1), p.1)

pub ends_rise : (m : ℕ) (rs : List Run) → AreRunsFrom m rs → IsNonDecreasingBy (λ (r : Run). r.end) rs
ends_rise m [] h i j d le lt = absurd (omega arith)
ends_rise m (r ∷ rs) h zero zero d le lt = omega arith
ends_rise m (r ∷ rs) h zero (suc j) d le lt = let p = at_least (r.end + 1) rs h.2 j d (omega arith) in omega (arith, p.0, p.1)
ends_rise m (r ∷ rs) h (suc i) zero d le lt = absurd (omega arith)
ends_rise m (r ∷ rs) h (suc i) (suc j) d le lt = ends_rise (r.end + 1) rs h.2 i j d (omega arith) (omega arith)

pub starts_rise : (m : ℕ) (rs : List Run) → AreRunsFrom m rs → IsNonDecreasingBy (λ (r : Run). r.start) rs
starts_rise m [] h i j d le lt = absurd (omega arith)
starts_rise m (r ∷ rs) h zero zero d le lt = omega arith
starts_rise m (r ∷ rs) h zero (suc j) d le lt = let p = at_least (r.end + 1) rs h.2 j d (omega arith) in omega (arith, p.0, h.1)
starts_rise m (r ∷ rs) h (suc i) zero d le lt = absurd (omega arith)
starts_rise m (r ∷ rs) h (suc i) (suc j) d le lt = starts_rise (r.end + 1) rs h.2 i j d (omega arith) (omega arith)

pub count_at : (p : Run → Bool) (rs : List Run) (n : ℕ) → n ≤ length rs → IsPartitionPoint (λ r. p r ≡ true) (λ r. p r ≡ false) rs n → n ≡ prefix_len p rs
count_at p rs n le point = sym (prefix_len_is p rs n (span 0 0) le (λ k lt. point.0 k (span 0 0) (omega arith) lt) (λ lt. point.1 n (span 0 0) (omega arith) lt))
