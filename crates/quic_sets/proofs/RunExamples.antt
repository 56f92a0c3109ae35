-- The words on sets at worked rows.
use Rattle.std.proofs.Common.{ℕ, [], ◌∷◌, inl, inr, lit<, lit≤, arith}
use Rattle.std.proofs.lemmas.Bool.{cases_lt}
use Rattle.quic_sets.specs.Runs.{Run, AreRuns, Adds, Drops, IsLeast, IsGreatest, IsApart, IsInside}

run : ℕ → ℕ → Run
run a b = record { start = a; end = b }

-- 1..2 and 3..5 are runs: 2 lacks
are_runs : AreRuns (run 1 2 ∷ run 3 5 ∷ [])
unfolding run
are_runs = (lit≤ tt, lit< tt, (lit≤ tt, lit< tt, tt))

-- 1..3 and 3..5 aren't, since they touch
touching : AreRuns (run 1 3 ∷ run 3 5 ∷ []) → ⊥
unfolding run
touching h = omega (arith, h.2.0)

-- nor are runs that descend, or an empty one
descending : AreRuns (run 3 5 ∷ run 1 2 ∷ []) → ⊥
unfolding run
descending h = omega (arith, h.2.0)

empty_run : AreRuns (run 3 3 ∷ []) → ⊥
unfolding run
empty_run h = omega (arith, h.1)

-- 1..3 with 3..5 is 1..5
adds : Adds (run 1 3 ∷ []) (run 1 5 ∷ []) 3 5
unfolding run
adds k = (
  λ h. elim h [ inl x ↦ elim (cases_lt k 3) [ inl lt ↦ inl (inl (omega (arith, x), lt)) | inr le ↦ inr (le, omega (arith, x)) ] | inr x ↦ absurd x ],
  λ h. elim h [ inl x ↦ elim x [ inl y ↦ inl (omega (arith, y), omega (arith, y)) | inr y ↦ absurd y ] | inr x ↦ inl (omega (arith, x), omega (arith, x)) ],
)

-- and not 1..6
adds_no_more : Adds (run 1 3 ∷ []) (run 1 6 ∷ []) 3 5 → ⊥
unfolding run
adds_no_more h = elim ((h 5).0 (inl (lit≤ tt, lit< tt))) [ inl x ↦ elim x [ inl y ↦ omega (arith, y) | inr y ↦ y ] | inr x ↦ omega (arith, x) ]

-- 1..5 without 2..3 is 1..2 and 3..5
drops : Drops (run 1 5 ∷ []) (run 1 2 ∷ run 3 5 ∷ []) 2 3
unfolding run
drops k = (
  λ h. elim h [
    | inl x ↦ (inl (omega (arith, x), omega (arith, x)), λ y. omega (arith, x, y))
    | inr x ↦ elim x [ inl z ↦ (inl (omega (arith, z), omega (arith, z)), λ y. omega (arith, z, y)) | inr z ↦ absurd z ]
  ],
  λ h. elim h.0 [
    | inl x ↦ elim (cases_lt k 2) [
      | inl lt ↦ inl (omega (arith, x), lt)
      | inr le ↦ elim (cases_lt k 3) [ inl lt ↦ absurd (h.1 (le, lt)) | inr ge ↦ inr (inl (ge, omega (arith, x))) ]
    ]
    | inr x ↦ absurd x
  ],
)

-- 2..3 lies inside of 1..5, which comes to be two runs; 1..3 doesn't
inside : IsInside (run 1 5 ∷ []) 2 3
unfolding run
inside = (lit< tt, lit< tt, λ k lo hi. inl (omega (arith, lo), omega (arith, hi)))

at_the_edge : IsInside (run 1 5 ∷ []) 1 3 → ⊥
unfolding run
at_the_edge h = elim (h.2 0 (lit≤ tt) (lit≤ tt)) [ inl x ↦ omega (arith, x) | inr x ↦ x ]

-- 5..6 stands apart from 1..4 and from 7..8; 4..6 touches 1..4
apart : IsApart (run 1 4 ∷ run 7 8 ∷ []) 5 6
unfolding run
apart = (lit< tt, λ k h. elim h [ inl x ↦ inl (omega (arith, x)) | inr x ↦ elim x [ inl y ↦ inr (omega (arith, y)) | inr y ↦ absurd y ] ])

touches : IsApart (run 1 4 ∷ []) 4 6 → ⊥
unfolding run
touches h = elim (h.1 3 (inl (lit≤ tt, lit< tt))) [ inl x ↦ omega (arith, x) | inr x ↦ omega (arith, x) ]

-- the ends of 10..12 and 31..32
least : IsLeast (run 10 12 ∷ run 31 32 ∷ []) 10
unfolding run
least = (inl (lit≤ tt, lit< tt), λ k h. elim h [ inl x ↦ x.0 | inr x ↦ elim x [ inl y ↦ omega (arith, y) | inr y ↦ absurd y ] ])

greatest : IsGreatest (run 10 12 ∷ run 31 32 ∷ []) 31
unfolding run
greatest = (inr (inl (lit≤ tt, lit< tt)), λ k h. elim h [ inl x ↦ omega (arith, x) | inr x ↦ elim x [ inl y ↦ omega (arith, y) | inr y ↦ absurd y ] ])
