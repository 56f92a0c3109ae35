-- A set of offsets that has each below one, which is kept as that number, and others above as runs.
use Rattle.std.proofs.Common.{◌≡◌, ℕ, ◌+◌, ◌≤◌, ◌<◌, ◌⊎◌, ◌↔◌, max, List, [], ◌∷◌, length, Some, None, Result, Ok, Err, OnOk, OnErr, refl, ap, inl, inr, arith}
use Rattle.std.specs.List.{slice_get}
use Rattle.std.proofs.lemmas.Bool.{cases_lt, lt-ltb, le-ltb}
use Rattle.quic_sets.specs.Runs.{Run, Has, AreRunsFrom, AreRuns, AreSame, Adds, Drops}
use Rattle.quic_sets.specs.Offsets.{first_lacking, with_prefix}
use Rattle.quic_sets.proofs.RunLists.{lower, at_least, same_list}

-- ---- what the set is

pub prefix_is : (n : ℕ) (rs : List Run) (k : ℕ) → Has (with_prefix n rs) k ↔ ((k < n) ⊎ Has rs k)
prefix_is n rs k = elim (cases_lt 0 n) [
  | inl lt ↦ rw (lt-ltb 0 n lt) (λ h. elim h [ inl i ↦ inl i.1 | inr i ↦ inr i ], λ h. elim h [ inl i ↦ inl (omega arith, i) | inr i ↦ inr i ])
  | inr le ↦ rw (le-ltb 0 n le) (λ h. inr h, λ h. elim h [ inl i ↦ absurd (omega (arith, i, le)) | inr i ↦ i ])
]

pub prefix_runs : (n : ℕ) (rs : List Run) → AreRunsFrom (n + 1) rs → AreRuns (with_prefix n rs)
prefix_runs n rs h = elim (cases_lt 0 n) [
  | inl lt ↦ rw (lt-ltb 0 n lt) (omega arith, lt, h)
  | inr le ↦ rw (le-ltb 0 n le) (lower (n + 1) 0 rs (omega arith) h)
]

pub prefix_first : (n : ℕ) (rs : List Run) → AreRunsFrom (n + 1) rs → first_lacking (with_prefix n rs) ≡ n
prefix_first n [] h = elim (cases_lt 0 n) [ inl lt ↦ rw (lt-ltb 0 n lt) refl | inr le ↦ rw (le-ltb 0 n le) (omega (arith, le)) ]
prefix_first n (r ∷ rs) h = elim (cases_lt 0 n) [
  | inl lt ↦ rw (lt-ltb 0 n lt) refl
  | inr le ↦ (let pos = lt-ltb 0 r.start (omega (arith, h.0)) in rw (le-ltb 0 n le, pos) (omega (arith, le)))
]

-- ---- the runs above are put in, or go into the run from 0 on

runs_above : (m n : ℕ) (rs : List Run) → AreRunsFrom m rs → ((k : ℕ) → Has rs k → n ≤ k) → AreRunsFrom n rs
runs_above m n [] h least = tt
runs_above m n (r ∷ rs) h least = (least r.start (inl (omega arith, h.1)), h.1, h.2)

-- no run is left that the run from 0 on touches
pub none_left : (n : ℕ) (rs : List Run) → None ≡ slice_get rs 0 → AreRunsFrom (n + 1) rs
none_left n [] e = tt
none_left n (r ∷ rs) e = cc

pub next_above : (n : ℕ) (r : Run) (rs : List Run) → Some r ≡ slice_get rs 0 → n < r.start → AreRuns rs → AreRunsFrom (n + 1) rs
next_above n r [] e lt h = cc
next_above n r (x ∷ rs) e lt h = let same : r ≡ x = cc in let above : n < x.start = rw same at lt in (omega (arith, above), h.1, h.2)

-- the first run goes into the run from 0 on, which it touches
pub record Absorbed (n m : ℕ) (rs new : List Run) : Type 0 where
  pub same : AreSame (with_prefix n rs) (with_prefix m new)
  pub less : length new < length rs

pub absorbed : (n m : ℕ) (r : Run) (rs new : List Run) → Some r ≡ slice_get rs 0 → m ≡ max n r.end → r.start ≤ n → AreRuns rs → AreRuns new → Drops rs new 0 r.end → Absorbed n m rs new
absorbed n m r [] new e to le h runs drops = cc
absorbed n m r (x ∷ rs) new e to le h runs drops =
    let is : r ≡ x = cc in
    let out : Drops (x ∷ rs) new 0 x.end = rw is at drops in
    let begins : x.start ≤ n = rw is at le in
    let end : m ≡ max n x.end = rw is at to in
    let tail : (k : ℕ) → Has new k → Has rs k = λ k i. (let d = (out k).0 i in elim d.0 [ inl j ↦ absurd (d.1 (omega arith, j.1)) | inr j ↦ j ]) in
    let all : (k : ℕ) → Has rs k → Has new k = λ k i. (let least = at_least k (x.end + 1) rs h.2 i in (out k).1 (inr i, λ both. omega (arith, least, both.1))) in
    let rest : new ≡ rs = same_list 0 (x.end + 1) new rs runs h.2 (λ k. (tail k, all k)) in
    record {
      same = λ k.
          let before = prefix_is n (x ∷ rs) k in
          let now = prefix_is m new k in (
            λ p. now.1 (elim (before.0 p) [
              | inl i ↦ inl (omega (arith, end, i))
              | inr i ↦ elim i [ inl j ↦ inl (omega (arith, end, j.1)) | inr j ↦ inr (all k j) ]
            ]),
            λ p. before.1 (elim (now.0 p) [
              | inl i ↦ elim (cases_lt k n) [ inl under ↦ inl under | inr over ↦ inr (inl (omega (arith, begins, over), omega (arith, end, i, over))) ]
              | inr i ↦ inr (inr (tail k i))
            ]),
          );
      less = (let lengths = ap (λ (ys : List Run). length ys) rest in omega (arith, lengths));
    }

pub adds_same : (old mid new : List Run) (a z : ℕ) → Adds old mid a z → AreSame mid new → Adds old new a z
adds_same old mid new a z adds same k = (λ h. (adds k).0 ((same k).1 h), λ h. (same k).0 ((adds k).1 h))

-- ---- what the calls do

-- all offsets below `end` come in
pub grown : (n m end to : ℕ) (old new : List Run) → to ≡ max n end → Adds old (with_prefix m new) 0 to → Adds (with_prefix n old) (with_prefix m new) 0 end
grown n m end to old new is adds k =
    let before = prefix_is n old k in (
      λ h. elim ((adds k).0 h) [
        | inl i ↦ inl (before.1 (inr i))
        | inr i ↦ elim (cases_lt k n) [ inl under ↦ inl (before.1 (inl under)) | inr over ↦ inr (i.0, omega (arith, is, i.1, over)) ]
      ],
      λ h. (adds k).1 (elim h [
        | inl i ↦ elim (before.0 i) [ inl under ↦ inr (omega arith, omega (arith, is, under)) | inr j ↦ inl j ]
        | inr i ↦ inr (i.0, omega (arith, is, i.1))
      ]),
    )

-- the runs above stay there, whether the call answers or fails
pub stay_above : {A E : Type 0} (r : Result A E) (n a z : ℕ) (old new : List Run) → n < a → AreRunsFrom (n + 1) old → AreRuns new → OnOk r (Adds old new a z) → OnErr r (new ≡ old) → AreRunsFrom (n + 1) new
stay_above (Ok x) n a z old new lt h runs adds same = runs_above 0 (n + 1) new runs (λ k i. elim ((adds k).0 i) [ inl j ↦ at_least k (n + 1) old h j | inr j ↦ omega (arith, lt, j.0) ])
stay_above (Err x) n a z old new lt h runs adds same = rw same h
