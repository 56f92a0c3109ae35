-- The runs with a range added are runs, and have the numbers of both.
use Rattle.std.proofs.Common.{ℕ, ◌+◌, ◌≤◌, ◌<◌, ◌⊎◌, min, max, List, [], ◌∷◌, inl, inr, arith}
use Rattle.std.proofs.lemmas.Bool.{cases_lt, lt-ltb, le-ltb}
use Rattle.quic_sets.specs.Runs.{Run, Has, AreRunsFrom, AreRuns, Adds}
use Rattle.quic_sets.specs.Pieces.{joining, with_range}

pub lower : (m n : ℕ) (rs : List Run) → n ≤ m → AreRunsFrom m rs → AreRunsFrom n rs
lower m n [] le h = tt
lower m n (r ∷ rs) le h = (omega arith, h.1, h.2)

-- ---- the runs stay runs

joining_runs : (n m a b : ℕ) (rs : List Run) → n ≤ a → a < b → n ≤ m → AreRunsFrom m rs → AreRunsFrom n (joining a b rs)
unfolding joining
joining_runs n m a b [] na ab nm h = (na, ab, tt)
joining_runs n m a b (r ∷ rs) na ab nm h =
    elim (cases_lt b r.start) [
      | inl lt ↦ rw (lt-ltb b r.start lt) (na, ab, (omega arith, h.1, h.2))
      | inr le ↦ rw (le-ltb b r.start le) (joining_runs n (r.end + 1) (min a r.start) (max b r.end) rs (omega (arith, h.0)) (omega (arith, h.1)) (omega (arith, h.0, h.1)) h.2)
    ]

pub with_range_runs : (n a b : ℕ) (rs : List Run) → n ≤ a → a < b → AreRunsFrom n rs → AreRunsFrom n (with_range a b rs)
unfolding with_range
with_range_runs n a b [] na ab h = joining_runs n n a b [] na ab (omega arith) tt
with_range_runs n a b (r ∷ rs) na ab h =
    elim (cases_lt r.end a) [
      | inl lt ↦ rw (lt-ltb r.end a lt) (h.0, h.1, with_range_runs (r.end + 1) a b rs (omega arith) ab h.2)
      | inr le ↦ rw (le-ltb r.end a le) (joining_runs n n a b (r ∷ rs) na ab (omega arith) h)
    ]

-- ---- each number stays, and each of the new ones comes

joining_adds : (k a b : ℕ) (rs : List Run) → a ≤ k → k < b → Has (joining a b rs) k
unfolding joining
joining_adds k a b [] lo hi = inl (lo, hi)
joining_adds k a b (r ∷ rs) lo hi =
    elim (cases_lt b r.start) [
      | inl lt ↦ rw (lt-ltb b r.start lt) (inl (lo, hi))
      | inr le ↦ rw (le-ltb b r.start le) (joining_adds k (min a r.start) (max b r.end) rs (omega arith) (omega arith))
    ]

joining_keeps : (k a b : ℕ) (rs : List Run) → Has rs k → Has (joining a b rs) k
unfolding joining
joining_keeps k a b [] h = absurd h
joining_keeps k a b (r ∷ rs) h =
    elim (cases_lt b r.start) [
      | inl lt ↦ rw (lt-ltb b r.start lt) (inr h)
      | inr le ↦ rw (le-ltb b r.start le) (elim h [
        | inl i ↦ joining_adds k (min a r.start) (max b r.end) rs (omega (arith, i.0)) (omega (arith, i.1))
        | inr i ↦ joining_keeps k (min a r.start) (max b r.end) rs i
      ])
    ]

with_range_adds : (k a b : ℕ) (rs : List Run) → a ≤ k → k < b → Has (with_range a b rs) k
unfolding with_range
with_range_adds k a b [] lo hi = joining_adds k a b [] lo hi
with_range_adds k a b (r ∷ rs) lo hi =
    elim (cases_lt r.end a) [
      | inl lt ↦ rw (lt-ltb r.end a lt) (inr (with_range_adds k a b rs lo hi))
      | inr le ↦ rw (le-ltb r.end a le) (joining_adds k a b (r ∷ rs) lo hi)
    ]

with_range_keeps : (k a b : ℕ) (rs : List Run) → Has rs k → Has (with_range a b rs) k
unfolding with_range
with_range_keeps k a b [] h = absurd h
with_range_keeps k a b (r ∷ rs) h =
    elim (cases_lt r.end a) [
      | inl lt ↦ rw (lt-ltb r.end a lt) (elim h [ inl i ↦ inl i | inr i ↦ inr (with_range_keeps k a b rs i) ])
      | inr le ↦ rw (le-ltb r.end a le) (joining_keeps k a b (r ∷ rs) h)
    ]

-- ---- no other comes

-- the first run does not end below a
abbrev Near : ℕ → List Run → Type 0
Near a [] = Unit {0}
Near a (r ∷ rs) = a ≤ r.end

near : (a m : ℕ) (rs : List Run) → a ≤ m → AreRunsFrom m rs → Near a rs
near a m [] le h = tt
near a m (r ∷ rs) le h = omega (arith, h.0, h.1)

both : (k a b s e : ℕ) → a ≤ e → s ≤ b → min a s ≤ k → k < max b e → ((s ≤ k) × (k < e)) ⊎ ((a ≤ k) × (k < b))
both k a b s e ae sb lo hi =
    elim (cases_lt k s) [
      | inl lt ↦ inr (omega arith, omega arith)
      | inr le ↦ elim (cases_lt k e) [ inl lt ↦ inl (le, lt) | inr ge ↦ inr (omega arith, omega arith) ]
    ]

joining_only : (k m a b : ℕ) (rs : List Run) → AreRunsFrom m rs → Near a rs → Has (joining a b rs) k → Has rs k ⊎ ((a ≤ k) × (k < b))
unfolding joining
joining_only k m a b [] runs n h = elim h [ inl i ↦ inr i | inr i ↦ absurd i ]
joining_only k m a b (r ∷ rs) runs n h =
    elim (cases_lt b r.start) [
      | inl lt ↦ elim (rw (lt-ltb b r.start lt) at h) [ inl i ↦ inr i | inr i ↦ inl i ]
      | inr le ↦ elim (joining_only k (r.end + 1) (min a r.start) (max b r.end) rs runs.2 (near (min a r.start) (r.end + 1) rs (omega (arith, runs.1)) runs.2) (rw (le-ltb b r.start le) at h)) [
        | inl i ↦ inl (inr i)
        | inr i ↦ elim (both k a b r.start r.end n le i.0 i.1) [ inl j ↦ inl (inl j) | inr j ↦ inr j ]
      ]
    ]

with_range_only : (k m a b : ℕ) (rs : List Run) → AreRunsFrom m rs → Has (with_range a b rs) k → Has rs k ⊎ ((a ≤ k) × (k < b))
unfolding with_range
with_range_only k m a b [] runs h = joining_only k m a b [] tt tt h
with_range_only k m a b (r ∷ rs) runs h =
    elim (cases_lt r.end a) [
      | inl lt ↦ elim (rw (lt-ltb r.end a lt) at h) [ inl i ↦ inl (inl i) | inr i ↦ elim (with_range_only k (r.end + 1) a b rs runs.2 i) [ inl j ↦ inl (inr j) | inr j ↦ inr j ] ]
      | inr le ↦ joining_only k m a b (r ∷ rs) runs le (rw (le-ltb r.end a le) at h)
    ]

pub with_range_is : (a b : ℕ) (rs : List Run) → AreRuns rs → Adds rs (with_range a b rs) a b
with_range_is a b rs runs k = (λ h. with_range_only k 0 a b rs runs h, λ h. elim h [ inl i ↦ with_range_keeps k a b rs i | inr i ↦ with_range_adds k a b rs i.0 i.1 ])

pub adds_none : (a b : ℕ) (rs : List Run) → b ≤ a → Adds rs rs a b
adds_none a b rs le k = (λ h. inl h, λ h. elim h [ inl i ↦ i | inr i ↦ absurd (omega (arith, i.0, i.1)) ])
