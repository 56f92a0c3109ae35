-- What the calls do to the maximal runs of a set.
use Rattle.std.proofs.Common.{◌≡◌, ℕ, suc, ◌+◌, ◌-◌, ◌^◌, ◌≤◌, ◌<◌, ◌⊎◌, true, false, cond, max, min, Option, Some, None, List, [], ◌∷◌, length, sym, ap, ◌∙◌, subst, inl, inr, arith}
use Rattle.std.specs.Prelude.{◌==◌, nat_lt, MatchOption}
use Rattle.std.proofs.lemmas.Bool.{cases_lt, cases_eq, lt-ltb, le-ltb, cond-true, cond-false}
use Rattle.quic_sets.specs.Runs.{Run, Has, AreRunsFrom, AreRuns, Adds, Drops}
use Rattle.quic_sets.proofs.RunLists.{same_list, lower}
use Rattle.quic_recovery_core.specs.PendingAcks.{joined, with_one, but_least, at_most, if_any, above, IsKept}
use Rattle.quic_recovery_core.specs.declared.spaces.pending_acks.TheConstants.{MAX_ACK_RUNS}

-- ---- a run before others

joined-touching : (start end : ℕ) (r : Run) (rs : List Run) → end ≡ r.start → joined start end (r ∷ rs) ≡ record { start = start; end = r.end } ∷ rs
joined-touching start end r rs e = let t : (end == r.start) ≡ true = grind arith in cond-true (end == r.start) (record { start = start; end = r.end } ∷ rs) (record { start = start; end = end } ∷ r ∷ rs) t

joined-apart : (start end : ℕ) (r : Run) (rs : List Run) → (end ≡ r.start → ⊥) → joined start end (r ∷ rs) ≡ record { start = start; end = end } ∷ r ∷ rs
joined-apart start end r rs other = let t : (end == r.start) ≡ false = grind arith in cond-false (end == r.start) (record { start = start; end = r.end } ∷ rs) (record { start = start; end = end } ∷ r ∷ rs) t

joined_runs : (m start end : ℕ) (rs : List Run) → m ≤ start → start < end → AreRunsFrom end rs → AreRunsFrom m (joined start end rs)
joined_runs m start end [] le lt runs = (le, lt, tt)
joined_runs m start end (r ∷ rs) le lt runs =
    let h0 = runs.0 in
    let h1 = runs.1 in
    elim (cases_eq end r.start) [
      | inl e ↦ subst (λ (xs : List Run). AreRunsFrom m xs) (sym (joined-touching start end r rs e)) (le, omega (arith, lt, e, h1), runs.2)
      | inr other ↦ subst (λ (xs : List Run). AreRunsFrom m xs) (sym (joined-apart start end r rs other)) (le, lt, (omega (arith, h0, other), h1, runs.2))
    ]

joined_len : (start end : ℕ) (rs : List Run) → length (joined start end rs) ≤ suc (length rs)
joined_len start end [] = omega arith
joined_len start end (r ∷ rs) = elim (cases_eq end r.start) [
  | inl e ↦ subst (λ (xs : List Run). length xs ≤ suc (length (r ∷ rs))) (sym (joined-touching start end r rs e)) (omega arith)
  | inr other ↦ subst (λ (xs : List Run). length xs ≤ suc (length (r ∷ rs))) (sym (joined-apart start end r rs other)) (omega arith)
]

in_joined : (start end k : ℕ) (rs : List Run) → start < end → AreRunsFrom end rs → Has (joined start end rs) k → ((start ≤ k) × (k < end)) ⊎ Has rs k
in_joined start end k [] lt runs h = elim h [ inl i ↦ inl i | inr none ↦ absurd none ]
in_joined start end k (r ∷ rs) lt runs h = elim (cases_eq end r.start) [
  | inl e ↦ elim (subst (λ (xs : List Run). Has xs k) (joined-touching start end r rs e) h) [
    | inl i ↦ (let i0 = i.0 in
        let i1 = i.1 in
        elim (cases_lt k end) [ inl under ↦ inl (i0, under) | inr over ↦ inr (inl (omega (arith, over, e), i1)) ])
    | inr t ↦ inr (inr t)
  ]
  | inr other ↦ elim (subst (λ (xs : List Run). Has xs k) (joined-apart start end r rs other) h) [ inl i ↦ inl i | inr t ↦ inr t ]
]

joined_in : (start end k : ℕ) (rs : List Run) → start < end → AreRunsFrom end rs → ((start ≤ k) × (k < end)) ⊎ Has rs k → Has (joined start end rs) k
joined_in start end k [] lt runs h = elim h [ inl i ↦ inl i | inr none ↦ absurd none ]
joined_in start end k (r ∷ rs) lt runs h =
    let h1 = runs.1 in
    elim (cases_eq end r.start) [
      | inl e ↦ subst (λ (xs : List Run). Has xs k) (sym (joined-touching start end r rs e)) (elim h [
        | inl i ↦ (let i1 = i.1 in inl (i.0, omega (arith, i1, e, h1)))
        | inr t ↦ elim t [ inl i ↦ (let i0 = i.0 in inl (omega (arith, i0, e, lt), i.1)) | inr later ↦ inr later ]
      ])
      | inr other ↦ subst (λ (xs : List Run). Has xs k) (sym (joined-apart start end r rs other)) (elim h [ inl i ↦ inl i | inr t ↦ inr t ])
    ]

-- ---- one number more

with_one-before : (r : Run) (rs : List Run) (n : ℕ) → n < r.start → with_one (r ∷ rs) n ≡ joined n (n + 1) (r ∷ rs)
with_one-before r rs n lt = cond-true (nat_lt n r.start) (joined n (n + 1) (r ∷ rs)) (cond (nat_lt n r.end) (r ∷ rs) (cond (n == r.end) (joined r.start (n + 1) rs) (r ∷ with_one rs n))) (lt-ltb n r.start lt)

with_one-inside : (r : Run) (rs : List Run) (n : ℕ) → r.start ≤ n → n < r.end → with_one (r ∷ rs) n ≡ r ∷ rs
with_one-inside r rs n le lt =
    cond-false (nat_lt n r.start) (joined n (n + 1) (r ∷ rs)) (cond (nat_lt n r.end) (r ∷ rs) (cond (n == r.end) (joined r.start (n + 1) rs) (r ∷ with_one rs n))) (le-ltb n r.start le)
    ∙ cond-true (nat_lt n r.end) (r ∷ rs) (cond (n == r.end) (joined r.start (n + 1) rs) (r ∷ with_one rs n)) (lt-ltb n r.end lt)

with_one-at_end : (r : Run) (rs : List Run) (n : ℕ) → r.start ≤ n → n ≡ r.end → with_one (r ∷ rs) n ≡ joined r.start (n + 1) rs
with_one-at_end r rs n le e =
    let t : (n == r.end) ≡ true = grind arith in
    cond-false (nat_lt n r.start) (joined n (n + 1) (r ∷ rs)) (cond (nat_lt n r.end) (r ∷ rs) (cond (n == r.end) (joined r.start (n + 1) rs) (r ∷ with_one rs n))) (le-ltb n r.start le)
    ∙ cond-false (nat_lt n r.end) (r ∷ rs) (cond (n == r.end) (joined r.start (n + 1) rs) (r ∷ with_one rs n)) (le-ltb n r.end (omega (arith, e)))
    ∙ cond-true (n == r.end) (joined r.start (n + 1) rs) (r ∷ with_one rs n) t

with_one-behind : (r : Run) (rs : List Run) (n : ℕ) → r.start ≤ n → r.end < n → with_one (r ∷ rs) n ≡ r ∷ with_one rs n
with_one-behind r rs n le lt =
    let t : (n == r.end) ≡ false = grind arith in
    cond-false (nat_lt n r.start) (joined n (n + 1) (r ∷ rs)) (cond (nat_lt n r.end) (r ∷ rs) (cond (n == r.end) (joined r.start (n + 1) rs) (r ∷ with_one rs n))) (le-ltb n r.start le)
    ∙ cond-false (nat_lt n r.end) (r ∷ rs) (cond (n == r.end) (joined r.start (n + 1) rs) (r ∷ with_one rs n)) (le-ltb n r.end (omega (arith, lt)))
    ∙ cond-false (n == r.end) (joined r.start (n + 1) rs) (r ∷ with_one rs n) t

-- the four places of a number at the first of some runs
at_first : (r : Run) (rs : List Run) (n : ℕ) (P : List Run → Type 0) → r.start < r.end → (n < r.start → P (joined n (n + 1) (r ∷ rs))) → (r.start ≤ n → n < r.end → P (r ∷ rs)) → (n ≡ r.end → P (joined r.start (n + 1) rs)) → (r.end < n → P (r ∷ with_one rs n)) → P (with_one (r ∷ rs) n)
at_first r rs n P filled before inside at_end behind = elim (cases_lt n r.start) [
  | inl lt ↦ subst P (sym (with_one-before r rs n lt)) (before lt)
  | inr le ↦ elim (cases_lt n r.end) [
    | inl lt ↦ subst P (sym (with_one-inside r rs n le lt)) (inside le lt)
    | inr over ↦ elim (cases_eq n r.end) [
      | inl e ↦ subst P (sym (with_one-at_end r rs n le e)) (at_end e)
      | inr other ↦ subst P (sym (with_one-behind r rs n le (omega (arith, over, other)))) (behind (omega (arith, over, other)))
    ]
  ]
]

pub with_one_runs : (m n : ℕ) (rs : List Run) → m ≤ n → AreRunsFrom m rs → AreRunsFrom m (with_one rs n)
with_one_runs m n [] le runs = (le, omega arith, tt)
with_one_runs m n (r ∷ rs) le runs =
    let h0 = runs.0 in
    let h1 = runs.1 in
    at_first r rs n (λ xs. AreRunsFrom m xs) runs.1
    (λ lt. joined_runs m n (n + 1) (r ∷ rs) le (omega arith) (omega (arith, lt), h1, runs.2))
    (λ from to. runs)
    (λ e. joined_runs m r.start (n + 1) rs h0 (omega (arith, e, h1)) (lower (r.end + 1) (n + 1) rs (omega (arith, e)) runs.2))
    (λ lt. (h0, h1, with_one_runs (r.end + 1) n rs (omega (arith, lt)) runs.2))

pub with_one_len : (n : ℕ) (rs : List Run) (m : ℕ) → AreRunsFrom m rs → length (with_one rs n) ≤ suc (length rs)
with_one_len n [] m runs = omega arith
with_one_len n (r ∷ rs) m runs =
    at_first r rs n (λ xs. length xs ≤ suc (length (r ∷ rs))) runs.1
    (λ lt. joined_len n (n + 1) (r ∷ rs))
    (λ from to. omega arith)
    (λ e. let le = joined_len r.start (n + 1) rs in omega (arith, le))
    (λ lt. let le = with_one_len n rs (r.end + 1) runs.2 in omega (arith, le))

pub in_with_one : (m n k : ℕ) (rs : List Run) → AreRunsFrom m rs → Has (with_one rs n) k → Has rs k ⊎ (k ≡ n)
in_with_one m n k [] runs h = elim h [ inl i ↦ (let i0 = i.0 in let i1 = i.1 in inr (omega (arith, i0, i1))) | inr none ↦ absurd none ]
in_with_one m n k (r ∷ rs) runs has =
    let h1 = runs.1 in
    at_first r rs n (λ xs. Has xs k → Has (r ∷ rs) k ⊎ (k ≡ n)) runs.1
    (λ lt h. elim (in_joined n (n + 1) k (r ∷ rs) (omega arith) (omega (arith, lt), h1, runs.2) h) [
      | inl i ↦ (let i0 = i.0 in let i1 = i.1 in inr (omega (arith, i0, i1)))
      | inr t ↦ inl t
    ])
    (λ from to h. inl h)
    (λ e h. elim (in_joined r.start (n + 1) k rs (omega (arith, e, h1)) (lower (r.end + 1) (n + 1) rs (omega (arith, e)) runs.2) h) [
      | inl i ↦ (let i0 = i.0 in
          let i1 = i.1 in
          elim (cases_eq k n) [ inl is ↦ inr is | inr other ↦ inl (inl (i0, omega (arith, i1, other, e))) ])
      | inr t ↦ inl (inr t)
    ])
    (λ lt h. elim h [ inl i ↦ inl (inl i) | inr t ↦ elim (in_with_one (r.end + 1) n k rs runs.2 t) [ inl old ↦ inl (inr old) | inr is ↦ inr is ] ])
    has

pub with_one_in : (m n k : ℕ) (rs : List Run) → AreRunsFrom m rs → Has rs k ⊎ (k ≡ n) → Has (with_one rs n) k
with_one_in m n k [] runs h = elim h [ inl none ↦ absurd none | inr e ↦ inl (omega (arith, e), omega (arith, e)) ]
with_one_in m n k (r ∷ rs) runs h =
    let h1 = runs.1 in
    at_first r rs n (λ xs. Has xs k) runs.1
    (λ lt. joined_in n (n + 1) k (r ∷ rs) (omega arith) (omega (arith, lt), h1, runs.2) (elim h [ inl old ↦ inr old | inr e ↦ inl (omega (arith, e), omega (arith, e)) ]))
    (λ from to. elim h [ inl old ↦ old | inr e ↦ inl (omega (arith, e, from), omega (arith, e, to)) ])
    (λ e. joined_in r.start (n + 1) k rs (omega (arith, e, h1)) (lower (r.end + 1) (n + 1) rs (omega (arith, e)) runs.2) (elim h [
      | inl old ↦ elim old [ inl i ↦ (let i0 = i.0 in let i1 = i.1 in inl (i0, omega (arith, i1, e))) | inr t ↦ inr t ]
      | inr is ↦ inl (omega (arith, is, e, h1), omega (arith, is))
    ]))
    (λ lt. elim h [
      | inl old ↦ elim old [ inl i ↦ inl i | inr t ↦ inr (with_one_in (r.end + 1) n k rs runs.2 (inl t)) ]
      | inr is ↦ inr (with_one_in (r.end + 1) n k rs runs.2 (inr is))
    ])

-- a set that has one number more is that set
pub added_is : (old new : List Run) (n : ℕ) → AreRuns old → AreRuns new → Adds old new n (n + 1) → new ≡ with_one old n
added_is old new n ro rn adds =
    same_list 0 0 new (with_one old n) rn (with_one_runs 0 n old (omega arith) ro) (λ k. (
      λ h. with_one_in 0 n k old ro (elim ((adds k).0 h) [ inl o ↦ inl o | inr i ↦ (let i0 = i.0 in let i1 = i.1 in inr (omega (arith, i0, i1))) ]),
      λ h. (adds k).1 (elim (in_with_one 0 n k old ro h) [ inl o ↦ inl o | inr e ↦ inr (omega (arith, e), omega (arith, e)) ]),
    ))

-- ---- no more than so many runs

pub but_least_runs : (m : ℕ) (rs : List Run) → AreRunsFrom m rs → AreRunsFrom m (but_least rs)
but_least_runs m [] runs = tt
but_least_runs m (r ∷ rs) runs = let h0 = runs.0 in let h1 = runs.1 in lower (r.end + 1) m rs (omega (arith, h0, h1)) runs.2

pub but_least_in : (k : ℕ) (rs : List Run) → Has (but_least rs) k → Has rs k
but_least_in k [] h = h
but_least_in k (r ∷ rs) h = inr h

pub but_least_len : (rs : List Run) (most : ℕ) → length rs ≤ suc most → length (but_least rs) ≤ most
but_least_len [] most le = omega arith
but_least_len (r ∷ rs) most le = omega (arith, le)

pub at_most-many : (rs : List Run) → MAX_ACK_RUNS < length rs → at_most rs ≡ but_least rs
at_most-many rs lt = cond-true (nat_lt MAX_ACK_RUNS (length rs)) (but_least rs) rs (lt-ltb MAX_ACK_RUNS (length rs) lt)

pub at_most-few : (rs : List Run) → length rs ≤ MAX_ACK_RUNS → at_most rs ≡ rs
at_most-few rs le = cond-false (nat_lt MAX_ACK_RUNS (length rs)) (but_least rs) rs (le-ltb MAX_ACK_RUNS (length rs) le)

pub but_least_is : (old new : List Run) (least : Option Run) → MatchOption least ((old ≡ []) × (new ≡ [])) (λ run. old ≡ run ∷ new) → new ≡ but_least old
but_least_is old new None h = h.1 ∙ sym (ap but_least h.0)
but_least_is old new (Some run) h = sym (ap but_least h)

pub put_many : (old all new : List Run) (n : ℕ) → all ≡ with_one old n → new ≡ but_least all → MAX_ACK_RUNS < length all → new ≡ at_most (with_one old n)
put_many old all new n is e lt = e ∙ sym (at_most-many all lt) ∙ ap at_most is

pub put_few : (old all : List Run) (n : ℕ) → all ≡ with_one old n → length all ≤ MAX_ACK_RUNS → all ≡ at_most (with_one old n)
put_few old all n is le = sym (at_most-few all le) ∙ ap at_most is

with_one_small : (old : List Run) (n : ℕ) → IsKept old → n + 1 < 2 ^ 64 → (k : ℕ) → Has (with_one old n) k → k + 1 < 2 ^ 64
with_one_small old n kept small k h = elim (in_with_one 0 n k old kept.runs h) [ inl o ↦ kept.small k o | inr e ↦ omega (arith, e, small) ]

pub at_most_kept : (old : List Run) (n : ℕ) → IsKept old → n + 1 < 2 ^ 64 → IsKept (at_most (with_one old n))
at_most_kept old n kept small =
    let all = with_one old n in
    let runs = with_one_runs 0 n old (omega arith) kept.runs in
    let few = kept.few in
    let len = with_one_len n old 0 kept.runs in
    elim (cases_lt MAX_ACK_RUNS (length all)) [
      | inl lt ↦ subst (λ (xs : List Run). IsKept xs) (sym (at_most-many all lt)) (record {
        runs = but_least_runs 0 all runs;
        few = but_least_len all MAX_ACK_RUNS (omega (arith, few, len));
        small = λ k h. with_one_small old n kept small k (but_least_in k all h);
      })
      | inr le ↦ subst (λ (xs : List Run). IsKept xs) (sym (at_most-few all le)) (record { runs = runs; few = le; small = with_one_small old n kept small })
    ]

-- a set with one number more has no other number
pub kept_numbers : (old : List Run) (n k : ℕ) → AreRuns old → Has (at_most (with_one old n)) k → Has old k ⊎ (k ≡ n)
kept_numbers old n k runs h =
    let all = with_one old n in
    in_with_one 0 n k old runs (elim (cases_lt MAX_ACK_RUNS (length all)) [
      | inl lt ↦ but_least_in k all (subst (λ (xs : List Run). Has xs k) (at_most-many all lt) h)
      | inr le ↦ subst (λ (xs : List Run). Has xs k) (at_most-few all le) h
    ])

-- ---- the numbers above one

if_any-some : (start end : ℕ) (rs : List Run) → start < end → if_any start end rs ≡ record { start = start; end = end } ∷ rs
if_any-some start end rs lt = cond-true (nat_lt start end) (record { start = start; end = end } ∷ rs) rs (lt-ltb start end lt)

if_any-none : (start end : ℕ) (rs : List Run) → end ≤ start → if_any start end rs ≡ rs
if_any-none start end rs le = cond-false (nat_lt start end) (record { start = start; end = end } ∷ rs) rs (le-ltb start end le)

pub above_runs : (m n : ℕ) (rs : List Run) → AreRunsFrom m rs → AreRunsFrom m (above rs n)
above_runs m n [] runs = tt
above_runs m n (r ∷ rs) runs =
    let h0 = runs.0 in
    let h1 = runs.1 in
    let rest = above_runs (r.end + 1) n rs runs.2 in
    let start = max r.start (n + 1) in
    elim (cases_lt start r.end) [
      | inl lt ↦ subst (λ (xs : List Run). AreRunsFrom m xs) (sym (if_any-some start r.end (above rs n) lt)) (omega (arith, h0), lt, rest)
      | inr le ↦ subst (λ (xs : List Run). AreRunsFrom m xs) (sym (if_any-none start r.end (above rs n) le)) (lower (r.end + 1) m (above rs n) (omega (arith, h0, h1)) rest)
    ]

pub above_len : (n : ℕ) (rs : List Run) → length (above rs n) ≤ length rs
above_len n [] = omega arith
above_len n (r ∷ rs) =
    let rest = above_len n rs in
    let start = max r.start (n + 1) in
    elim (cases_lt start r.end) [
      | inl lt ↦ subst (λ (xs : List Run). length xs ≤ length (r ∷ rs)) (sym (if_any-some start r.end (above rs n) lt)) (omega (arith, rest))
      | inr le ↦ subst (λ (xs : List Run). length xs ≤ length (r ∷ rs)) (sym (if_any-none start r.end (above rs n) le)) (omega (arith, rest))
    ]

pub in_above : (n k : ℕ) (rs : List Run) → Has (above rs n) k → Has rs k × (n < k)
in_above n k [] h = absurd h
in_above n k (r ∷ rs) h =
    let start = max r.start (n + 1) in
    let later : Has (above rs n) k → Has (r ∷ rs) k × (n < k) = λ t. (let i = in_above n k rs t in (inr i.0, i.1)) in
    elim (cases_lt start r.end) [
      | inl lt ↦ elim (subst (λ (xs : List Run). Has xs k) (if_any-some start r.end (above rs n) lt) h) [
        | inl i ↦ (let i0 = i.0 in (inl (omega (arith, i0), i.1), omega (arith, i0)))
        | inr t ↦ later t
      ]
      | inr le ↦ later (subst (λ (xs : List Run). Has xs k) (if_any-none start r.end (above rs n) le) h)
    ]

pub above_in : (n k : ℕ) (rs : List Run) → Has rs k → n < k → Has (above rs n) k
above_in n k [] h over = absurd h
above_in n k (r ∷ rs) h over =
    let start = max r.start (n + 1) in
    elim (cases_lt start r.end) [
      | inl lt ↦ subst (λ (xs : List Run). Has xs k) (sym (if_any-some start r.end (above rs n) lt)) (elim h [
        | inl i ↦ (let i0 = i.0 in inl (omega (arith, i0, over), i.1))
        | inr t ↦ inr (above_in n k rs t over)
      ])
      | inr le ↦ subst (λ (xs : List Run). Has xs k) (sym (if_any-none start r.end (above rs n) le)) (elim h [
        | inl i ↦ absurd (let i0 = i.0 in let i1 = i.1 in omega (arith, i0, i1, over, le))
        | inr t ↦ above_in n k rs t over
      ])
    ]

pub above_kept : (old : List Run) (n : ℕ) → IsKept old → IsKept (above old n)
above_kept old n kept = record {
  runs = above_runs 0 n old kept.runs;
  few = let few = kept.few in
      let len = above_len n old in
      omega (arith, few, len);
  small = λ k h. kept.small k (in_above n k old h).0;
}

-- a set without the numbers up to one is that set
pub cut_is : (old new : List Run) (n end : ℕ) → IsKept old → AreRuns new → end ≡ min (n + 1) (2 ^ 64 - 1) → Drops old new 0 end → new ≡ above old n
cut_is old new n end kept rn e drops =
    same_list 0 0 new (above old n) rn (above_runs 0 n old kept.runs) (λ k. (
      λ h. let d = (drops k).0 h in
          let small = kept.small k d.0 in
          above_in n k old d.0 (elim (cases_lt k end) [ inl lt ↦ absurd (d.1 (omega arith, lt)) | inr le ↦ omega (arith, le, e, small) ]),
      λ h. let a = in_above n k old h in
          let over = a.1 in
          (drops k).1 (a.0, λ i. let i1 = i.1 in omega (arith, i1, over, e)),
    ))
