-- The numbers of runs, one at a time.
use Rattle.std.proofs.Common.{◌≡◌, ℕ, zero, suc, ◌+◌, ◌-◌, ◌≤◌, ◌<◌, ◌⊎◌, List, [], ◌∷◌, ◌++◌, refl, sym, ap, ◌∙◌, inl, inr, arith, append_assoc, MatchOption, Some, None}
use Rattle.std.specs.List.{range_with_len}
use Rattle.std.specs.Prelude.{Option}
use Rattle.std.proofs.lemmas.Bool.{cases_lt}
use Rattle.std.proofs.lemmas.List.{append-nil}
use Rattle.std.proofs.lemmas.Grind.{flat_map-append}
use Rattle.quic_sets.specs.Runs.{Run, Has, AreRunsFrom}
use Rattle.quic_sets.specs.Elements.{run_elements, elements, Lists, AscendFrom, AreFilled}

-- the first number of a run, and those behind it
pub first_of : (r s : Run) → r.start < r.end → s.start ≡ r.start + 1 → s.end ≡ r.end → run_elements r ≡ r.start ∷ run_elements s
first_of r s lt is_start is_end =
    let n = r.end - (r.start + 1) in
    let more : r.end - r.start ≡ suc n = omega arith in
    ap (range_with_len r.start) more ∙ rw (is_start, is_end) refl

last_number : (a n j : ℕ) → a + n ≡ j → range_with_len a (suc n) ≡ range_with_len a n ++ j ∷ []
last_number a zero j e = let same : a ≡ j = omega (arith, e) in rw same refl
last_number a (suc n) j e = ap (λ ns. a ∷ ns) (last_number (a + 1) n j (omega (arith, e)))

-- the last number of a run, and those before it
pub last_of : (r s : Run) → r.start < r.end → s.start ≡ r.start → s.end + 1 ≡ r.end → run_elements r ≡ run_elements s ++ s.end ∷ []
last_of r s lt is_start is_end =
    let n = s.end - r.start in
    let more : r.end - r.start ≡ suc n = omega (arith, is_end) in
    ap (range_with_len r.start) more ∙ last_number r.start n s.end (omega (arith, is_end)) ∙ rw is_start refl

pub none_of : (r : Run) → r.end - r.start ≡ 0 → run_elements r ≡ []
none_of r e = ap (range_with_len r.start) e

-- ---- runs that are taken from the back

pub filled_front : (rs : List Run) (r : Run) → AreFilled (rs ++ r ∷ []) → AreFilled rs
filled_front [] r h = tt
filled_front (x ∷ xs) r h = (h.0, filled_front xs r h.1)

pub filled_last : (rs : List Run) (r : Run) → AreFilled (rs ++ r ∷ []) → r.start < r.end
filled_last [] r h = h.0
filled_last (x ∷ xs) r h = filled_last xs r h.1

pub filled : (n : ℕ) (rs : List Run) → AreRunsFrom n rs → AreFilled rs
filled n [] h = tt
filled n (r ∷ rs) h = (h.1, filled (r.end + 1) rs h.2)

pub elements_last : (rs : List Run) (r : Run) → elements (rs ++ r ∷ []) ≡ elements rs ++ run_elements r
elements_last rs r = flat_map-append run_elements rs (r ∷ []) ∙ ap (λ ns. elements rs ++ ns) (append-nil (run_elements r))

-- ---- which numbers are there

both_lists : (ms ns : List ℕ) (k : ℕ) → Lists ms k ⊎ Lists ns k → Lists (ms ++ ns) k
both_lists [] ns k h = elim h [ inl i ↦ absurd i | inr i ↦ i ]
both_lists (m ∷ ms) ns k h = elim h [ inl i ↦ elim i [ inl e ↦ inl e | inr j ↦ inr (both_lists ms ns k (inl j)) ] | inr i ↦ inr (both_lists ms ns k (inr i)) ]

lists_either : (ms ns : List ℕ) (k : ℕ) → Lists (ms ++ ns) k → Lists ms k ⊎ Lists ns k
lists_either [] ns k h = inr h
lists_either (m ∷ ms) ns k h = elim h [ inl e ↦ inl (inl e) | inr i ↦ elim (lists_either ms ns k i) [ inl j ↦ inl (inr j) | inr j ↦ inr j ] ]

in_count : (a n k : ℕ) → Lists (range_with_len a n) k → (a ≤ k) × (k < a + n)
in_count a zero k h = absurd h
in_count a (suc n) k h = elim h [
  | inl e ↦ (omega (arith, e), omega (arith, e))
  | inr i ↦ (let p = in_count (a + 1) n k i in (omega (arith, p.0), omega (arith, p.1)))
]

counted : (a n k : ℕ) → a ≤ k → k < a + n → Lists (range_with_len a n) k
counted a zero k lo hi = absurd (omega arith)
counted a (suc n) k lo hi = elim (equal_or_above a k lo) [ inl e ↦ inl e | inr up ↦ inr (counted (a + 1) n k up (omega arith)) ]
  where
    equal_or_above : (a k : ℕ) → a ≤ k → (k ≡ a) ⊎ (a + 1 ≤ k)
    equal_or_above a k lo = elim (cases_lt a k) [ inl lt ↦ inr (omega arith) | inr le ↦ inl (omega arith) ]

pub listed : (rs : List Run) (k : ℕ) → Lists (elements rs) k → Has rs k
listed [] k h = h
listed (r ∷ rs) k h = elim (lists_either (run_elements r) (elements rs) k h) [
  | inl i ↦ (let p = in_count r.start (r.end - r.start) k i in inl (p.0, omega (arith, p.0, p.1)))
  | inr i ↦ inr (listed rs k i)
]

pub has_listed : (rs : List Run) (k : ℕ) → Has rs k → Lists (elements rs) k
has_listed [] k h = h
has_listed (r ∷ rs) k h = both_lists (run_elements r) (elements rs) k (elim h [
  | inl i ↦ inl (counted r.start (r.end - r.start) k i.0 (omega (arith, i.0, i.1)))
  | inr i ↦ inr (has_listed rs k i)
])

-- ---- their order

from_lower : (m n : ℕ) (ns : List ℕ) → m ≤ n → AscendFrom n ns → AscendFrom m ns
from_lower m n [] le h = tt
from_lower m n (k ∷ ks) le h = (omega (arith, h.0), h.1)

ascend_behind : (m a n : ℕ) (ns : List ℕ) → m ≤ a → AscendFrom (a + n) ns → AscendFrom m (range_with_len a n ++ ns)
ascend_behind m a zero ns le h = from_lower m (a + 0) ns (omega arith) h
ascend_behind m a (suc n) ns le h = (le, ascend_behind (a + 1) (a + 1) n ns (omega arith) (from_lower (a + 1 + n) (a + suc n) ns (omega arith) h))

pub ascending : (n : ℕ) (rs : List Run) → AreRunsFrom n rs → AscendFrom n (elements rs)
ascending n [] h = tt
ascending n (r ∷ rs) h = ascend_behind n r.start (r.end - r.start) (elements rs) h.0 (from_lower (r.start + (r.end - r.start)) (r.end + 1) (elements rs) (omega (arith, h.1)) (ascending (r.end + 1) rs h.2))

-- ---- what a step gives

pub took_first : (r s : Run) (o : Option ℕ) → (s.end ≡ r.end) × MatchOption o ((r.end - r.start ≡ 0) × (s.start ≡ r.start)) (λ x. (0 < r.end - r.start) × (x ≡ r.start) × (s.start ≡ r.start + 1))
    → MatchOption o ((run_elements r ≡ []) × (run_elements s ≡ [])) (λ n. run_elements r ≡ n ∷ run_elements s)
took_first r s None h = (none_of r h.1.0, none_of s (omega (arith, h.0, h.1.0, h.1.1)))
took_first r s (Some n) h = rw h.1.1 (first_of r s (omega (arith, h.1.0)) h.1.2 h.0)

pub took_last : (r s : Run) (o : Option ℕ) → (s.start ≡ r.start) × MatchOption o ((r.end - r.start ≡ 0) × (s.end ≡ r.end)) (λ x. (0 < r.end - r.start) × (x ≡ s.end) × (r.end ≡ s.end + 1))
    → MatchOption o ((run_elements r ≡ []) × (run_elements s ≡ [])) (λ n. run_elements r ≡ run_elements s ++ n ∷ [])
took_last r s None h = (none_of r h.1.0, none_of s (omega (arith, h.0, h.1.0, h.1.1)))
took_last r s (Some n) h = rw h.1.1 (last_of r s (omega (arith, h.1.0)) h.0 (sym h.1.2))

-- what `next_back` gives of a run that came from the back
pub last_gives : (ms : List ℕ) (olds rs : List Run) (r s old : Run) (o : Option ℕ) → olds ≡ rs ++ r ∷ [] → run_elements old ≡ [] → r.start < r.end
    → MatchOption o ((run_elements r ≡ []) × (run_elements s ≡ [])) (λ n. run_elements r ≡ run_elements s ++ n ∷ [])
    → MatchOption o ((ms ++ (elements olds ++ run_elements old) ≡ []) × (ms ++ (elements rs ++ run_elements s) ≡ [])) (λ n. ms ++ (elements olds ++ run_elements old) ≡ (ms ++ (elements rs ++ run_elements s)) ++ n ∷ [])
last_gives ms olds rs r s old None is none lt h = absurd (let e = sym (first_of r (record { start = r.start + 1; end = r.end }) lt refl refl) ∙ h.0 in cc)
last_gives ms olds rs r s old (Some n) is none lt h =
    let all : elements olds ++ run_elements old ≡ (elements rs ++ run_elements s) ++ n ∷ [] = ap (λ (xs : List Run). elements xs ++ run_elements old) is ∙ ap (λ (ns : List ℕ). elements (rs ++ r ∷ []) ++ ns) none ∙ append-nil (elements (rs ++ r ∷ [])) ∙ elements_last rs r ∙ ap (λ (ns : List ℕ). elements rs ++ ns) h ∙ sym (append_assoc (elements rs) (run_elements s) (n ∷ [])) in
    ap (λ (ns : List ℕ). ms ++ ns) all ∙ sym (append_assoc ms (elements rs ++ run_elements s) (n ∷ []))
