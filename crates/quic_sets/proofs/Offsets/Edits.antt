-- Sets of offsets: the words for what a call leaves have the offsets that they should, and are
-- maximal runs.
use Rattle.std.proofs.Common.{◌≡◌, ℕ, ◌+◌, ◌≤◌, ◌<◌, ◌↔◌, Bool, true, false, cond, ltb, leb, max, List, [], ◌∷◌, refl, sym, ap, inl, inr, arith}
use Rattle.std.proofs.lemmas.Bool.{cases_lt, lt-ltb, le-ltb, le-leb, leb-true, ltb-true, and_parts, and_from, or_cases, or_left, or_right, false_from_ne_true, both_ways}
use Rattle.quic_sets.specs.Runs.{Run, Has, AreRunsFrom, AreRuns, Adds, Drops, IsUnion, IsDifference}
use Rattle.quic_sets.specs.Lacking.{AddsLacking}
use Rattle.quic_sets.specs.Pieces.{pieces}
use Rattle.quic_sets.proofs.RunLists.{at_least, same_list, has_left, has_right, has_either, joined, after}
use Rattle.quic_sets.proofs.Joining.{with_range_is, with_range_runs, adds_none}
use Rattle.quic_sets.proofs.PieceSteps.{pieces_numbers, pieces_runs}
use Rattle.quic_sets.specs.Offsets.{is_within, has, first_or, first_lacking, span, with_offsets, parts_from, without_offsets, with_all, without_all, lacking}

-- ---- tests and sets

pub within_from : (a z o : ℕ) → a ≤ o → o < z → is_within a z o ≡ true
within_from a z o le lt = and_from (leb a o) (ltb o z) (le-leb a o le) (lt-ltb o z lt)

pub within_is : (a z o : ℕ) → is_within a z o ≡ true → (a ≤ o) × (o < z)
within_is a z o h = let p = and_parts (leb a o) (ltb o z) h in (leb-true a o p.0, ltb-true o z p.1)

pub has_from : (rs : List Run) (o : ℕ) → Has rs o → has rs o ≡ true
has_from [] o h = absurd h
has_from (r ∷ rs) o h = elim h [
  | inl i ↦ or_left (is_within r.start r.end o) (has rs o) (within_from r.start r.end o i.0 i.1)
  | inr i ↦ or_right (is_within r.start r.end o) (has rs o) (has_from rs o i)
]

pub has_is : (rs : List Run) (o : ℕ) → has rs o ≡ true → Has rs o
has_is [] o h = absurd (both_ways false refl h)
has_is (r ∷ rs) o h = elim (or_cases (is_within r.start r.end o) (has rs o) h) [
  | inl i ↦ inl (within_is r.start r.end o i)
  | inr i ↦ inr (has_is rs o i)
]

pub has_not : (rs : List Run) (o : ℕ) → (Has rs o → ⊥) → has rs o ≡ false
has_not rs o none = false_from_ne_true (has rs o) (λ h. none (has_is rs o h))

pub lacks : (rs : List Run) (o : ℕ) → has rs o ≡ false → Has rs o → ⊥
lacks rs o h i = both_ways (has rs o) h (has_from rs o i)

-- a test of an offset is the set's
pub has_by : (b : Bool) (rs : List Run) (o : ℕ) → Has rs o ↔ (b ≡ true) → b ≡ has rs o
has_by true rs o h = sym (has_from rs o (h.1 refl))
has_by false rs o h = sym (has_not rs o (λ i. both_ways false refl (h.0 i)))

-- ---- with the offsets of a range

pub with_runs : (a z : ℕ) (rs : List Run) → AreRuns rs → AreRuns (with_offsets a z rs)
unfolding with_offsets
with_runs a z rs h = elim (cases_lt a z) [
  | inl lt ↦ rw (lt-ltb a z lt) (with_range_runs 0 a z rs (omega arith) lt h)
  | inr le ↦ rw (le-ltb a z le) h
]

pub with_is : (a z : ℕ) (rs : List Run) → AreRuns rs → Adds rs (with_offsets a z rs) a z
unfolding with_offsets
with_is a z rs h = elim (cases_lt a z) [
  | inl lt ↦ rw (lt-ltb a z lt) (with_range_is a z rs h)
  | inr le ↦ rw (le-ltb a z le) (adds_none a z rs le)
]

pub with_only : (a z : ℕ) (rs new : List Run) → AreRuns rs → AreRuns new → Adds rs new a z → new ≡ with_offsets a z rs
with_only a z rs new h runs adds = same_list 0 0 new (with_offsets a z rs) runs (with_runs a z rs h) (λ k. (λ x. (with_is a z rs h k).1 ((adds k).0 x), λ x. (adds k).1 ((with_is a z rs h k).0 x)))

-- ---- without them

part_yes : (z : ℕ) (r : Run) (rs : List Run) → max z r.start < r.end → parts_from z (r ∷ rs) ≡ record { start = max z r.start; end = r.end } ∷ parts_from z rs
unfolding parts_from
part_yes z r rs lt = ap (λ c. cond c (record { start = max z r.start; end = r.end } ∷ parts_from z rs) (parts_from z rs)) (lt-ltb (max z r.start) r.end lt)

part_no : (z : ℕ) (r : Run) (rs : List Run) → r.end ≤ max z r.start → parts_from z (r ∷ rs) ≡ parts_from z rs
unfolding parts_from
part_no z r rs le = ap (λ c. cond c (record { start = max z r.start; end = r.end } ∷ parts_from z rs) (parts_from z rs)) (le-ltb (max z r.start) r.end le)

parts_only : (z : ℕ) (rs : List Run) (k : ℕ) → Has (parts_from z rs) k → Has rs k × (z ≤ k)
unfolding parts_from
parts_only z [] k h = absurd h
parts_only z (r ∷ rs) k h = elim (cases_lt (max z r.start) r.end) [
  | inl lt ↦ elim (rw (part_yes z r rs lt) at h) [
    | inl i ↦ (inl (omega (arith, i.0), i.1), omega (arith, i.0))
    | inr i ↦ (let p = parts_only z rs k i in (inr p.0, p.1))
  ]
  | inr le ↦ (let p = parts_only z rs k (rw (part_no z r rs le) at h) in (inr p.0, p.1))
]

parts_all : (z : ℕ) (rs : List Run) (k : ℕ) → Has rs k → z ≤ k → Has (parts_from z rs) k
unfolding parts_from
parts_all z [] k h le = absurd h
parts_all z (r ∷ rs) k h le = elim (cases_lt (max z r.start) r.end) [
  | inl lt ↦ rw (part_yes z r rs lt) (elim h [
    | inl i ↦ inl (omega (arith, i.0), i.1)
    | inr i ↦ inr (parts_all z rs k i le)
  ])
  | inr ge ↦ rw (part_no z r rs ge) (elim h [
    | inl i ↦ absurd (omega (arith, i.0, i.1))
    | inr i ↦ parts_all z rs k i le
  ])
]

parts_runs : (m n z : ℕ) (rs : List Run) → n ≤ max z m → AreRunsFrom m rs → AreRunsFrom n (parts_from z rs)
unfolding parts_from
parts_runs m n z [] le h = tt
parts_runs m n z (r ∷ rs) le h = elim (cases_lt (max z r.start) r.end) [
  | inl lt ↦ rw (part_yes z r rs lt) (omega (arith, le, h.0), lt, parts_runs (r.end + 1) (r.end + 1) z rs (omega arith) h.2)
  | inr ge ↦ rw (part_no z r rs ge) (parts_runs (r.end + 1) n z rs (omega (arith, le, h.0, h.1)) h.2)
]

-- runs that have no number from m on end by m
ends_by : (n m : ℕ) (rs : List Run) → n ≤ m + 1 → AreRunsFrom n rs → ((k : ℕ) → Has rs k → k < m) → after n rs ≤ m + 1
ends_by n m [] le h below = le
ends_by n m (r ∷ rs) le h below =
    let last = below r.start (inl (omega arith, h.1)) in
    elim (cases_lt m r.end) [
      | inl lt ↦ absurd (let less = below m (inl (omega (arith, last), lt)) in omega (arith, less))
      | inr ge ↦ ends_by (r.end + 1) m rs (omega (arith, ge)) h.2 (λ k i. below k (inr i))
    ]

pub without_runs : (a z : ℕ) (rs : List Run) → AreRuns rs → AreRuns (without_offsets a z rs)
unfolding without_offsets
without_runs a z rs h = elim (cases_lt a z) [
  | inl lt ↦ rw (lt-ltb a z lt) (
      let front = pieces_runs 0 0 a rs h in
      let ends = ends_by 0 a (pieces 0 a rs) (omega arith) front (λ k i. ((pieces_numbers 0 a rs k).0 i).1.1) in
      joined 0 (pieces 0 a rs) (parts_from z rs) front (parts_runs 0 (after 0 (pieces 0 a rs)) z rs (omega (arith, ends, lt)) h))
  | inr le ↦ rw (le-ltb a z le) h
]

pub without_is : (a z : ℕ) (rs : List Run) → Drops rs (without_offsets a z rs) a z
unfolding without_offsets
without_is a z rs k = elim (cases_lt a z) [
  | inl lt ↦ rw (lt-ltb a z lt) (
    λ h. elim (has_either (pieces 0 a rs) (parts_from z rs) k h) [
      | inl i ↦ (let p = (pieces_numbers 0 a rs k).0 i in (p.0, λ both. omega (arith, p.1.1, both.0)))
      | inr i ↦ (let p = parts_only z rs k i in (p.0, λ both. omega (arith, p.1, both.1)))
    ],
    λ h. elim (cases_lt k a) [
      | inl under ↦ has_left (pieces 0 a rs) (parts_from z rs) k ((pieces_numbers 0 a rs k).1 (h.0, (omega arith, under)))
      | inr le ↦ elim (cases_lt k z) [
        | inl below ↦ absurd (h.1 (le, below))
        | inr above ↦ has_right (pieces 0 a rs) (parts_from z rs) k (parts_all z rs k h.0 above)
      ]
    ],
  )
  | inr le ↦ rw (le-ltb a z le) (λ h. (h, λ both. omega (arith, le, both.0, both.1)), λ h. h.0)
]

pub without_only : (a z : ℕ) (rs new : List Run) → AreRuns rs → AreRuns new → Drops rs new a z → new ≡ without_offsets a z rs
without_only a z rs new h runs drops = same_list 0 0 new (without_offsets a z rs) runs (without_runs a z rs h) (λ k. (λ x. (without_is a z rs k).1 ((drops k).0 x), λ x. (drops k).1 ((without_is a z rs k).0 x)))

-- nothing is left of nothing
pub without_none : (a z : ℕ) → without_offsets a z [] ≡ []
unfolding without_offsets pieces parts_from
without_none a z = elim (cases_lt a z) [ inl lt ↦ rw (lt-ltb a z lt) refl | inr le ↦ rw (le-ltb a z le) refl ]

-- ---- with and without the offsets of other runs

pub with_all_runs : (others rs : List Run) → AreRuns rs → AreRuns (with_all others rs)
with_all_runs [] rs h = h
with_all_runs (o ∷ others) rs h = with_all_runs others (with_offsets o.start o.end rs) (with_runs o.start o.end rs h)

pub with_all_is : (others rs : List Run) → AreRuns rs → IsUnion rs others (with_all others rs)
with_all_is [] rs h k = (λ x. inl x, λ x. elim x [ inl y ↦ y | inr y ↦ absurd y ])
with_all_is (o ∷ others) rs h k =
    let rest = with_all_is others (with_offsets o.start o.end rs) (with_runs o.start o.end rs h) k in
    let first = with_is o.start o.end rs h k in (
      λ x. elim (rest.0 x) [
        | inl y ↦ elim (first.0 y) [ inl w ↦ inl w | inr w ↦ inr (inl w) ]
        | inr y ↦ inr (inr y)
      ],
      λ x. rest.1 (elim x [
        | inl y ↦ inl (first.1 (inl y))
        | inr y ↦ elim y [ inl w ↦ inl (first.1 (inr w)) | inr w ↦ inr w ]
      ]),
    )

pub without_all_is : (others rs : List Run) → IsDifference rs others (without_all others rs)
without_all_is [] rs k = (λ x. (x, λ none. none), λ x. x.0)
without_all_is (o ∷ others) rs k =
    let rest = without_all_is others (without_offsets o.start o.end rs) k in
    let first = without_is o.start o.end rs k in (
      λ x. (let p = rest.0 x in let q = first.0 p.0 in (q.0, λ y. elim y [ inl w ↦ q.1 w | inr w ↦ p.1 w ])),
      λ x. rest.1 (first.1 (x.0, λ w. x.1 (inl w)), λ w. x.1 (inr w)),
    )

span_is : (a z k : ℕ) → Has (span a z) k ↔ ((a ≤ k) × (k < z))
span_is a z k = elim (cases_lt a z) [
  | inl lt ↦ rw (lt-ltb a z lt) (λ h. elim h [ inl i ↦ i | inr i ↦ absurd i ], λ h. inl h)
  | inr le ↦ rw (le-ltb a z le) (λ h. absurd h, λ h. omega (arith, h.0, h.1, le))
]

-- a set with what another lacks of a range
pub lost_runs : (a z : ℕ) (old others : List Run) → AreRuns old → AreRuns (with_all (lacking a z others) old)
lost_runs a z old others h = with_all_runs (lacking a z others) old h

pub lost_is : (a z : ℕ) (old others : List Run) → AreRuns old → AddsLacking old others (with_all (lacking a z others) old) a z
lost_is a z old others h k =
    let all = with_all_is (lacking a z others) old h k in
    let part = without_all_is others (span a z) k in
    let here = span_is a z k in (
      λ x. elim (all.0 x) [ inl y ↦ inl y | inr y ↦ inr (let p = part.0 y in let q = here.0 p.0 in (q.0, q.1, p.1)) ],
      λ x. all.1 (elim x [ inl y ↦ inl y | inr y ↦ inr (part.1 (here.1 (y.0, y.1), y.2)) ]),
    )

pub lost_only : (a z : ℕ) (old others new : List Run) → AreRuns old → AreRuns new → AddsLacking old others new a z → new ≡ with_all (lacking a z others) old
lost_only a z old others new h runs adds = same_list 0 0 new (with_all (lacking a z others) old) runs (lost_runs a z old others h) (λ k. (λ x. (lost_is a z old others h k).1 ((adds k).0 x), λ x. (adds k).1 ((lost_is a z old others h k).0 x)))

-- ---- the first run, and the first offset that lacks

-- no offset is below the first run
pub first_is_least : (rs : List Run) (other : Run) (k : ℕ) → AreRuns rs → Has rs k → (first_or rs other).start ≤ k
first_is_least [] other k runs h = absurd h
first_is_least (r ∷ rs) other k runs h = elim h [ inl i ↦ i.0 | inr i ↦ (let le = at_least k (r.end + 1) rs runs.2 i in omega (arith, le, runs.1)) ]

-- the set has the offsets below, and lacks that one
pub below_first : (rs : List Run) (k : ℕ) → AreRuns rs → k < first_lacking rs → Has rs k
below_first [] k runs lt = absurd (omega arith)
below_first (r ∷ rs) k runs lt = elim (cases_lt 0 r.start) [
  | inl pos ↦ absurd (let less : k < 0 = rw (lt-ltb 0 r.start pos) at lt in omega (arith, less))
  | inr le ↦ inl (omega (arith, le), rw (le-ltb 0 r.start le) at lt)
]

pub first_lacks : (rs : List Run) → AreRuns rs → Has rs (first_lacking rs) → ⊥
first_lacks [] runs h = absurd h
first_lacks (r ∷ rs) runs h = elim (cases_lt 0 r.start) [
  | inl pos ↦ (let here : Has (r ∷ rs) 0 = rw (lt-ltb 0 r.start pos) at h in let le = first_is_least (r ∷ rs) r 0 runs here in omega (arith, le, pos))
  | inr le ↦ (let here : Has (r ∷ rs) r.end = rw (le-ltb 0 r.start le) at h in elim here [
    | inl i ↦ omega (arith, i.1)
    | inr i ↦ (let ge = at_least r.end (r.end + 1) rs runs.2 i in omega (arith, ge))
  ])
]

-- a bound of the offsets is one of the first that lacks
pub first_by : (rs : List Run) (m : ℕ) → AreRuns rs → ((k : ℕ) → Has rs k → k < m) → first_lacking rs ≤ m
first_by rs m runs below = elim (cases_lt m (first_lacking rs)) [
  | inl lt ↦ absurd (let less = below m (below_first rs m runs lt) in omega (arith, less))
  | inr le ↦ le
]

-- a set with more has it no earlier
pub first_rises : (rs new : List Run) → AreRuns rs → AreRuns new → ((k : ℕ) → Has rs k → Has new k) → first_lacking rs ≤ first_lacking new
first_rises rs new runs news more = elim (cases_lt (first_lacking new) (first_lacking rs)) [
  | inl lt ↦ absurd (first_lacks new news (more (first_lacking new) (below_first rs (first_lacking new) runs lt)))
  | inr le ↦ le
]
