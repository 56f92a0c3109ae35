-- The order of stretches in turn: where the one that has an offset is found.
use Rattle.std.proofs.Common.{◌≡◌, ℕ, zero, suc, ◌<◌, ◌≤◌, leb, length, List, [], ◌∷◌, true, false, Option, Some, None, refl, sym, ap, ◌∙◌, arith}
use Rattle.std.specs.Prelude.{slice_index_or}
use Rattle.std.specs.List.Sorted.{IsPartitionedBy, IsPartitionPoint}
use Rattle.std.proofs.lemmas.Bool.{le-leb, leb-true, leb-false, lt-ltb, le-ltb}
use Rattle.quic_sets.specs.Parts.{Part}
use Rattle.quic_send_buffer.specs.KeptBytes.{AreInTurn, end_of, stretch_with}
use Rattle.quic_send_buffer.specs.Row.{row}
use Rattle.quic_send_buffer.proofs.Kept.Stretches.{parts_of}

-- ---- the ends rise

above_start : (at end j : ℕ) (ss : List (List Part)) (d : List Part) → AreInTurn at (parts_of ss) end → j < length ss → at ≤ end_of (slice_index_or ss j d)
above_start at end j [] d h lt = absurd (omega (arith, lt))
above_start at end zero (s ∷ ss) d h lt = let here = h.0 in omega (arith, here)
above_start at end (suc j) (s ∷ ss) d h lt =
    let here = h.0 in
    let rest = above_start (end_of s) end j ss d h.2 (omega (arith, lt)) in
    omega (arith, here, rest)

ends_rise : (at end i j : ℕ) (ss : List (List Part)) (d : List Part) → AreInTurn at (parts_of ss) end → i ≤ j → j < length ss → end_of (slice_index_or ss i d) ≤ end_of (slice_index_or ss j d)
ends_rise at end i j [] d h le lt = absurd (omega (arith, lt))
ends_rise at end zero zero (s ∷ ss) d h le lt = omega arith
ends_rise at end zero (suc j) (s ∷ ss) d h le lt = above_start (end_of s) end j ss d h.2 (omega (arith, lt))
ends_rise at end (suc i) zero (s ∷ ss) d h le lt = absurd (omega (arith, le))
ends_rise at end (suc i) (suc j) (s ∷ ss) d h le lt = ends_rise (end_of s) end i j ss d h.2 (omega (arith, le)) (omega (arith, lt))

-- those that end up to an offset come first
pub turn_ordered : (at end o : ℕ) (ss : List (List Part)) → AreInTurn at (parts_of ss) end → IsPartitionedBy (λ s. leb (end_of s) o) ss
turn_ordered at end o ss h = λ i j d le lt up.
    let rise = ends_rise at end i j ss d h le lt in
    let there = leb-true (end_of (slice_index_or ss j d)) o up in
    le-leb (end_of (slice_index_or ss i d)) o (omega (arith, rise, there))

-- ---- the first that ends behind an offset

-- where those that end up to an offset and those that end behind it part
abbrev pub IsPoint : ℕ → ℕ → List (List Part) → Type 0
IsPoint o i ss = IsPartitionPoint (λ (s : List Part). leb (end_of s) o ≡ true) (λ (s : List Part). leb (end_of s) o ≡ false) ss i

after_none : (o : ℕ) (ss : List (List Part)) → ((k : ℕ) (d : List Part) → k < length ss → leb (end_of (slice_index_or ss k d)) o ≡ true) → None ≡ stretch_with o ss
after_none o [] all = refl
after_none o (s ∷ ss) all =
    let first = leb-true (end_of s) o (all 0 s (omega arith)) in
    rw (le-ltb o (end_of s) first) (after_none o ss (λ k d l. all (suc k) d (omega (arith, l))))

after_some : (o i : ℕ) (ss : List (List Part)) (s : List Part) → ((k : ℕ) (d : List Part) → k < i → leb (end_of (slice_index_or ss k d)) o ≡ true) → i < length ss → s ≡ slice_index_or ss i s → leb (end_of s) o ≡ false → Some s ≡ stretch_with o ss
after_some o i [] s before lt e here = absurd (omega (arith, lt))
after_some o zero (t ∷ ss) s before lt e here =
    let behind = leb-false (end_of s) o here in
    let same : s ≡ t = e in
    rw (sym same, lt-ltb o (end_of s) (omega (arith, behind))) refl
after_some o (suc i) (t ∷ ss) s before lt e here =
    let first = leb-true (end_of t) o (before 0 t (omega arith)) in
    rw (le-ltb o (end_of t) first) (after_some o i ss s (λ k d l. before (suc k) d (omega (arith, l))) (omega (arith, lt)) e here)

pub at_point : (o i : ℕ) (ss : List (List Part)) (s : List Part) → IsPoint o i ss → i < length ss → s ≡ slice_index_or ss i s → Some s ≡ stretch_with o ss
at_point o i ss s point lt e = after_some o i ss s (λ k d l. point.0 k d (omega arith) l) lt e (ap (λ (x : List Part). leb (end_of x) o) e ∙ point.1 i s (omega arith) lt)

pub past_point : (o i : ℕ) (ss : List (List Part)) → IsPoint o i ss → length ss ≤ i → None ≡ stretch_with o ss
past_point o i ss point le = after_none o ss (λ k d l. point.0 k d (omega arith) (omega (arith, l, le)))

-- ---- of a row whose first stands apart

pub others_ordered : (o : ℕ) (first : Option Part) (ss : List (List Part)) → IsPartitionedBy (λ s. leb (end_of s) o) (row first ss) → IsPartitionedBy (λ s. leb (end_of s) o) ss
others_ordered o None ss h = h
others_ordered o (Some p) ss h = λ i j d le lt up. h (suc i) (suc j) d (omega (arith, le)) (omega (arith, lt)) up
