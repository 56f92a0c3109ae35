-- What an edit does to the numbers of a list of runs.
use Rattle.std.proofs.Common.{◌≡◌, ℕ, suc, zero, ◌+◌, ◌-◌, ◌≤◌, ◌<◌, min, max, ◌⊎◌, ◌↔◌, List, [], ◌∷◌, ◌++◌, length, take, drop, get_or, refl, ap, ◌∙◌, inl, inr, arith}
use Rattle.std.proofs.lemmas.Bool.{cases_lt}
use Rattle.std.specs.declared.ops.Range.{Range}
use Rattle.std.specs.List.{insert, remove, refill}
use Rattle.std.specs.Prelude.{slice_get, set, Some}
use Rattle.std.proofs.Common.{add-one, length-append, length-take, length-drop, length-set}
use Rattle.std.proofs.lemmas.List.{take_more, take_all, take_at}
use Rattle.quic_sets.specs.Runs.{Run, In, Has, AreRunsFrom, AreRuns, Adds, Drops, IsUnion, IsDifference, IsLeast, IsGreatest, IsApart}
use Rattle.quic_sets.specs.RunEdits.{AreMet, IsInsertion, IsRemoval, HasPlaces, edited}
use Rattle.quic_sets.specs.declared.range_set.runs.Edit.{Edit}
use Rattle.quic_sets.specs.declared.range_set.runs.Edit.TheVariants as edits
use Rattle.quic_sets.proofs.RunLists.{lower, has_at, at_has, filled, ordered, starts_rise, ends_rise, has_left, has_right, has_either, in_take, take_has, in_drop, drop_has, after, joined, taken, after_taken, dropped}

abbrev pub empty : Run
empty = record { start = 0; end = 0 }

-- the places from one up to another
abbrev pub places : ℕ → ℕ → Range ℕ
places i t = record { start = i; end = t }

-- the run at a place
abbrev pub at : List Run → ℕ → Run
at rs i = get_or rs i empty

-- some runs between the front and the back of a list of runs
pub between_runs : (rs mid : List Run) (i t m : ℕ) → AreRuns rs → ((j : ℕ) → j < i → j < length rs → (at rs j).end < m) → AreRunsFrom m mid → ((j : ℕ) → t ≤ j → j < length rs → after m mid ≤ (at rs j).start) → AreRuns (take i rs ++ (mid ++ drop t rs))
between_runs rs mid i t m runs front here back =
    let behind = joined m mid (drop t rs) here (dropped 0 (after m mid) rs t empty runs back) in
    joined 0 (take i rs) (mid ++ drop t rs) (taken 0 rs i runs) (lower m (after 0 (take i rs)) (mid ++ drop t rs) (after_taken 0 m rs i empty (omega arith) front) behind)

-- an edit leaves at most one run more
edited_short : (rs : List Run) (e : Edit) → HasPlaces e (length rs) → length (edited e rs) ≤ length rs + 1
edited_short rs (edits.Insert i run) h = simp (length-append, length-take, length-drop) (omega arith)
edited_short rs (edits.Split p left right) h = simp (length-append, length-take, length-drop) (omega arith)
edited_short rs (edits.Merge p run) h = simp (length-append, length-take, length-drop) (omega arith)
edited_short rs (edits.Trim p left right) h = simp (length-append, length-take, length-drop) (omega arith)
edited_short rs (edits.Remove p) h = simp (length-append, length-take, length-drop) (omega arith)

-- ---- adding

-- the run from s to e has the numbers from a to b, others only where the set has them, and all of
-- the runs that give way
pub record Widens (rs : List Run) (i t a b s e : ℕ) : Type 0 where
  pub ascend : i ≤ t
  pub starts : s ≤ a
  pub ends : b ≤ e
  pub below : (k : ℕ) → s ≤ k → k < a → Has rs k
  pub above : (k : ℕ) → b ≤ k → k < e → Has rs k
  pub all : (j : ℕ) → i ≤ j → j < t → j < length rs → (s ≤ (at rs j).start) × ((at rs j).end ≤ e)

abbrev pub widened : List Run → ℕ → ℕ → ℕ → ℕ → List Run
widened rs i t s e = take i rs ++ (record { start = s; end = e } ∷ drop t rs)

pub widens_only : (rs : List Run) (i t a b s e : ℕ) → Widens rs i t a b s e → (k : ℕ) → Has (widened rs i t s e) k → Has rs k ⊎ ((a ≤ k) × (k < b))
widens_only rs i t a b s e w k h =
    elim (has_either (take i rs) (record { start = s; end = e } ∷ drop t rs) k h) [
      | inl front ↦ (let j = take_has rs i k empty front in inl (has_at rs j.0 k empty j.2 j.3))
      | inr behind ↦ elim behind [
        | inl it ↦ elim (cases_lt k a) [
          | inl lt ↦ inl (w.below k it.0 lt)
          | inr le ↦ elim (cases_lt k b) [ inl lt ↦ inr (le, lt) | inr ge ↦ inl (w.above k ge it.1) ]
        ]
        | inr back ↦ (let j = drop_has rs t k empty back in inl (has_at rs j.0 k empty j.2 j.3))
      ]
    ]

pub widens_keeps : (rs : List Run) (i t a b s e : ℕ) → Widens rs i t a b s e → (k : ℕ) → Has rs k → Has (widened rs i t s e) k
widens_keeps rs i t a b s e w k h =
    let j = at_has rs k empty h in
    let rest : List Run = record { start = s; end = e } ∷ drop t rs in
    elim (cases_lt j.0 i) [
      | inl front ↦ has_left (take i rs) rest k (in_take rs i j.0 k empty front j.1 j.2)
      | inr ge ↦ has_right (take i rs) rest k (elim (cases_lt j.0 t) [
        | inl lt ↦ (let o = w.all j.0 ge lt j.1 in inl (omega (arith, o, j.2), omega (arith, o, j.2)))
        | inr le ↦ inr (in_drop rs t j.0 k empty le j.1 j.2)
      ])
    ]

pub widens : (rs : List Run) (i t a b s e : ℕ) → Widens rs i t a b s e → Adds rs (widened rs i t s e) a b
widens rs i t a b s e w k = (
  widens_only rs i t a b s e w k,
  λ h. elim h [
    | inl old ↦ widens_keeps rs i t a b s e w k old
    | inr new ↦ has_right (take i rs) (record { start = s; end = e } ∷ drop t rs) k (inl (omega (arith, w.starts, new.0), omega (arith, w.ends, new.1)))
  ],
)

-- what the set has after an insert that changes nothing
no_change : (rs new : List Run) (a b : ℕ) → Adds rs new a b → new ≡ rs → (k : ℕ) → a ≤ k → k < b → Has rs k
no_change rs new a b adds e k lo hi = rw e at ((adds k).1 (inr (lo, hi)))

-- a run before the places ends below the range
before_ends : (rs : List Run) (a b i t j : ℕ) → AreRuns rs → AreMet rs (a - 1) b i t → j < i → j < length rs → (at rs j).end < a
before_ends rs a b i t j runs met lt within = let e = met.before j empty lt in let f = filled 0 rs j empty runs within in omega (arith, e, f)

lone_apart : (rs : List Run) (a b i : ℕ) → AreRuns rs → a < b → AreMet rs (a - 1) b i i → IsApart rs a b
lone_apart rs a b i runs ab met = (
  ab,
  λ k h. (let j = at_has rs k empty h in
      elim (cases_lt j.0 i) [
        | inl lt ↦ (let e = before_ends rs a b i i j.0 runs met lt j.1 in inl (omega (arith, e, j.2)))
        | inr le ↦ (let s = met.behind j.0 empty le j.1 in inr (omega (arith, s, j.2)))
      ]),
)

lone_widens : (rs : List Run) (a b i : ℕ) → a < b → Widens rs i i a b a b
lone_widens rs a b i ab = record {
  ascend = omega arith;
  starts = omega arith;
  ends = omega arith;
  below = λ k lo hi. absurd (omega arith);
  above = λ k lo hi. absurd (omega arith);
  all = λ j le lt within. absurd (omega arith);
}

lone_runs : (rs : List Run) (a b i : ℕ) → AreRuns rs → a < b → AreMet rs (a - 1) b i i → AreRuns (widened rs i i a b)
lone_runs rs a b i runs ab met = between_runs rs (record { start = a; end = b } ∷ []) i i a runs (λ j lt within. before_ends rs a b i i j runs met lt within) (omega arith, ab, tt) (λ j le within. let s = met.behind j empty le within in omega (arith, s))

lone_changes : (rs : List Run) (a b i : ℕ) → AreRuns rs → a < b → AreMet rs (a - 1) b i i → widened rs i i a b ≡ rs → ⊥
lone_changes rs a b i runs ab met e =
    let has = no_change rs (widened rs i i a b) a b (widens rs i i a b a b (lone_widens rs a b i ab)) e a (omega arith) ab in
    elim ((lone_apart rs a b i runs ab met).1 a has) [ inl lt ↦ omega (arith, lt) | inr lt ↦ omega (arith, lt, ab) ]

pub inserts : (rs : List Run) (a b i t : ℕ) → AreRuns rs → a < b → AreMet rs (a - 1) b i t → i ≡ t → IsInsertion rs a b (edits.Insert i (record { start = a; end = b }))
inserts rs a b i t runs ab met e =
    let met' : AreMet rs (a - 1) b i i = rw (← e) at met in
    record {
      places = omega (arith, met'.within);
      short = edited_short rs (edits.Insert i (record { start = a; end = b })) (omega (arith, met'.within));
      adds = widens rs i i a b a b (lone_widens rs a b i ab);
      runs = lone_runs rs a b i runs ab met';
      changes = lone_changes rs a b i runs ab met';
      apart = λ _. lone_apart rs a b i runs ab met';
    }

-- the range lies in one run
pub covered : (rs : List Run) (a b i : ℕ) → i < length rs → (at rs i).start ≤ a → b ≤ (at rs i).end → Adds rs rs a b
covered rs a b i within s e k = (λ h. inl h, λ h. elim h [ inl old ↦ old | inr new ↦ has_at rs i k empty within (omega (arith, s, new.0), omega (arith, e, new.1)) ])

pub none_added : (rs : List Run) (a b : ℕ) → b ≤ a → Adds rs rs a b
none_added rs a b le k = (λ h. inl h, λ h. elim h [ inl old ↦ old | inr new ↦ absurd (omega (arith, new.0, new.1)) ])

merge_widens : (rs : List Run) (a b i t : ℕ) → AreRuns rs → a < b → AreMet rs (a - 1) b i t → i < t → Widens rs i t a b (min a (at rs i).start) (max b (at rs (t - 1)).end)
merge_widens rs a b i t runs ab met it =
    let first = met.meet i empty (omega arith) it in
    let last = met.meet (t - 1) empty (omega arith) (omega arith) in
    let inside : i < length rs = omega (arith, met.within) in
    let inside' : t - 1 < length rs = omega (arith, met.within) in
    let f = filled 0 rs i empty runs inside in
    let g = filled 0 rs (t - 1) empty runs inside' in
    record {
      ascend = omega arith;
      starts = omega arith;
      ends = omega arith;
      below = λ k lo hi. has_at rs i k empty inside (omega (arith, lo, hi), omega (arith, hi, first));
      above = λ k lo hi. has_at rs (t - 1) k empty inside' (omega (arith, lo, last), omega (arith, hi, lo));
      all = λ j le lt within. (
        elim (cases_lt i j) [
          | inl over ↦ (let o = ordered 0 rs i j empty runs over within in omega (arith, o, f))
          | inr under ↦ (let same : j ≡ i = omega arith in rw same (omega arith))
        ],
        elim (cases_lt j (t - 1)) [
          | inl under ↦ (let o = ordered 0 rs j (t - 1) empty runs under inside' in omega (arith, o, g))
          | inr over ↦ (let same : j ≡ t - 1 = omega arith in rw same (omega arith))
        ],
      );
    }

merge_runs : (rs : List Run) (a b i t : ℕ) → AreRuns rs → a < b → AreMet rs (a - 1) b i t → i < t → AreRuns (widened rs i t (min a (at rs i).start) (max b (at rs (t - 1)).end))
merge_runs rs a b i t runs ab met it =
    let inside : i < length rs = omega (arith, met.within) in
    between_runs rs (record { start = min a (at rs i).start; end = max b (at rs (t - 1)).end } ∷ []) i t (min a (at rs i).start) runs
    (λ j lt within. let e = before_ends rs a b i t j runs met lt within in let o = ordered 0 rs j i empty runs lt inside in omega (arith, e, o))
    (omega arith, omega (arith, ab), tt)
    (λ j le within. let s = met.behind j empty le within in let o = ordered 0 rs (t - 1) j empty runs (omega arith) within in omega (arith, s, o))

-- the range goes past the first run that it meets
abbrev pub GoesPast : ℕ → ℕ → Run → Type 0
GoesPast a b r = (a < r.start) ⊎ (r.end < b)

merge_changes : (rs : List Run) (a b i t : ℕ) → AreRuns rs → a < b → AreMet rs (a - 1) b i t → i < t → GoesPast a b (at rs i) → widened rs i t (min a (at rs i).start) (max b (at rs (t - 1)).end) ≡ rs → ⊥
merge_changes rs a b i t runs ab met it past e =
    let s = min a (at rs i).start in
    let e' = max b (at rs (t - 1)).end in
    let has : (k : ℕ) → a ≤ k → k < b → Has rs k = no_change rs (widened rs i t s e') a b (widens rs i t a b s e' (merge_widens rs a b i t runs ab met it)) e in
    let inside : i < length rs = omega (arith, met.within) in
    let first = met.meet i empty (omega arith) it in
    let f = filled 0 rs i empty runs inside in
    elim past [
      | inl lt ↦ (let j = at_has rs a empty (has a (omega arith) ab) in
          elim (cases_lt j.0 i) [
            | inl under ↦ (let o = before_ends rs a b i t j.0 runs met under j.1 in omega (arith, o, j.2))
            | inr le ↦ elim (cases_lt i j.0) [
              | inl over ↦ (let o = ordered 0 rs i j.0 empty runs over j.1 in omega (arith, o, f, lt, j.2))
              | inr ge ↦ (let same : j.0 ≡ i = omega arith in let it = rw same at j.2 in omega (arith, it, lt))
            ]
          ])
      | inr lt ↦ (let n = (at rs i).end in let j = at_has rs n empty (has n (omega (arith, first, f)) lt) in
          elim (cases_lt j.0 i) [
            | inl under ↦ (let o = ordered 0 rs j.0 i empty runs under inside in omega (arith, o, f, j.2))
            | inr le ↦ elim (cases_lt i j.0) [
              | inl over ↦ (let o = ordered 0 rs i j.0 empty runs over j.1 in omega (arith, o, j.2))
              | inr ge ↦ (let same : j.0 ≡ i = omega arith in let it = rw same at j.2 in omega (arith, it))
            ]
          ])
    ]

pub merges : (rs : List Run) (a b i t : ℕ) → AreRuns rs → a < b → AreMet rs (a - 1) b i t → i < t → GoesPast a b (at rs i) → IsInsertion rs a b (edits.Merge (places i t) (record { start = min a (at rs i).start; end = max b (at rs (t - 1)).end }))
merges rs a b i t runs ab met it past = record {
  places = (it, met.within);
  short = edited_short rs (edits.Merge (places i t) (record { start = min a (at rs i).start; end = max b (at rs (t - 1)).end })) (it, met.within);
  adds = widens rs i t a b (min a (at rs i).start) (max b (at rs (t - 1)).end) (merge_widens rs a b i t runs ab met it);
  runs = merge_runs rs a b i t runs ab met it;
  changes = merge_changes rs a b i t runs ab met it past;
  apart = λ h. absurd h;
}

-- ---- taking out

-- the runs that come in have the numbers of those that give way but for those from a to b, and the
-- other runs have none of these
pub record Narrows (rs mid : List Run) (i t a b : ℕ) : Type 0 where
  pub ascend : i ≤ t
  pub only : (k : ℕ) → Has mid k → Has rs k × ((a ≤ k) × (k < b) → ⊥)
  pub keeps : (j k : ℕ) → i ≤ j → j < t → j < length rs → In k (at rs j) → ((a ≤ k) × (k < b) → ⊥) → Has mid k
  pub front : (j : ℕ) → j < i → j < length rs → (at rs j).end ≤ a
  pub back : (j : ℕ) → t ≤ j → j < length rs → b ≤ (at rs j).start

narrows_only : (rs mid : List Run) (i t a b : ℕ) → Narrows rs mid i t a b → (k : ℕ) → Has (take i rs ++ (mid ++ drop t rs)) k → Has rs k × ((a ≤ k) × (k < b) → ⊥)
narrows_only rs mid i t a b w k h =
    elim (has_either (take i rs) (mid ++ drop t rs) k h) [
      | inl front ↦ (let j = take_has rs i k empty front in let e = w.front j.0 j.1 j.2 in (has_at rs j.0 k empty j.2 j.3, λ x. omega (arith, e, j.3, x)))
      | inr behind ↦ elim (has_either mid (drop t rs) k behind) [
        | inl it ↦ w.only k it
        | inr back ↦ (let j = drop_has rs t k empty back in let e = w.back j.0 j.1 j.2 in (has_at rs j.0 k empty j.2 j.3, λ x. omega (arith, e, j.3, x)))
      ]
    ]

narrows_keeps : (rs mid : List Run) (i t a b : ℕ) → Narrows rs mid i t a b → (k : ℕ) → Has rs k → ((a ≤ k) × (k < b) → ⊥) → Has (take i rs ++ (mid ++ drop t rs)) k
narrows_keeps rs mid i t a b w k h out =
    let j = at_has rs k empty h in
    elim (cases_lt j.0 i) [
      | inl front ↦ has_left (take i rs) (mid ++ drop t rs) k (in_take rs i j.0 k empty front j.1 j.2)
      | inr ge ↦ has_right (take i rs) (mid ++ drop t rs) k (elim (cases_lt j.0 t) [
        | inl lt ↦ has_left mid (drop t rs) k (w.keeps j.0 k ge lt j.1 j.2 out)
        | inr le ↦ has_right mid (drop t rs) k (in_drop rs t j.0 k empty le j.1 j.2)
      ])
    ]

pub narrows : (rs mid : List Run) (i t a b : ℕ) → Narrows rs mid i t a b → Drops rs (take i rs ++ (mid ++ drop t rs)) a b
narrows rs mid i t a b w k = (narrows_only rs mid i t a b w k, λ h. narrows_keeps rs mid i t a b w k h.0 h.1)

-- what is left of the first run and of the last
abbrev pub left_of : List Run → ℕ → ℕ → Run
left_of rs i a = record { start = (at rs i).start; end = a }

abbrev pub right_of : List Run → ℕ → ℕ → Run
right_of rs t b = record { start = b; end = (at rs (t - 1)).end }

-- the runs at the places meet the range
pub record Cuts (rs : List Run) (a b i t : ℕ) : Type 0 where
  pub runs : AreRuns rs
  pub filled : a < b
  pub some : i < t
  pub met : AreMet rs a (b - 1) i t

in_left : (rs : List Run) (a b i t k : ℕ) → Cuts rs a b i t → In k (left_of rs i a) → Has rs k × ((a ≤ k) × (k < b) → ⊥)
in_left rs a b i t k c h =
    let first = c.met.meet i empty (omega arith) c.some in
    (has_at rs i k empty (omega (arith, c.met.within, c.some)) (h.0, omega (arith, first, h.1)), λ x. omega (arith, x, h.1))

in_right : (rs : List Run) (a b i t k : ℕ) → Cuts rs a b i t → In k (right_of rs t b) → Has rs k × ((a ≤ k) × (k < b) → ⊥)
in_right rs a b i t k c h =
    let last = c.met.meet (t - 1) empty (omega (arith, c.some)) (omega (arith, c.some)) in
    (has_at rs (t - 1) k empty (omega (arith, c.met.within, c.some)) (omega (arith, last, c.filled, h.0), h.1), λ x. omega (arith, x, h.0))

cut_keeps : (rs : List Run) (a b i t j k : ℕ) → Cuts rs a b i t → i ≤ j → j < t → j < length rs → In k (at rs j) → ((a ≤ k) × (k < b) → ⊥) → In k (left_of rs i a) ⊎ In k (right_of rs t b)
cut_keeps rs a b i t j k c ge lt within h out =
    let first = c.met.meet i empty (omega arith) c.some in
    let last = c.met.meet (t - 1) empty (omega (arith, c.some)) (omega (arith, c.some)) in
    elim (cases_lt k a) [
      | inl under ↦ inl (elim (cases_lt i j) [
        | inl over ↦ absurd (let o = ordered 0 rs i j empty c.runs over within in omega (arith, o, first, h.0, under))
        | inr le ↦ (let same : j ≡ i = omega arith in let it = rw same at h in (it.0, under))
      ])
      | inr from ↦ elim (cases_lt k b) [
        | inl below ↦ absurd (out (from, below))
        | inr beyond ↦ inr (elim (cases_lt j (t - 1)) [
          | inl lower ↦ absurd (let o = ordered 0 rs j (t - 1) empty c.runs lower (omega (arith, c.met.within, c.some)) in omega (arith, o, last, c.filled, h.1, beyond))
          | inr le ↦ (let same : j ≡ t - 1 = omega (arith, c.some) in let it = rw same at h in (beyond, it.1))
        ])
      ]
    ]

-- what comes in has the numbers of the two that are left
abbrev pub AreLeft : List Run → Run → Run → Type 0
AreLeft mid left right = (k : ℕ) → Has mid k ↔ (In k left ⊎ In k right)

cut_narrows : (rs mid : List Run) (a b i t : ℕ) → Cuts rs a b i t → AreLeft mid (left_of rs i a) (right_of rs t b) → Narrows rs mid i t a b
cut_narrows rs mid a b i t c left = record {
  ascend = c.met.ascend;
  only = λ k h. elim ((left k).0 h) [ inl x ↦ in_left rs a b i t k c x | inr x ↦ in_right rs a b i t k c x ];
  keeps = λ j k ge lt within h out. (left k).1 (cut_keeps rs a b i t j k c ge lt within h out);
  front = λ j lt within. c.met.before j empty lt;
  back = λ j le within. (let s = c.met.behind j empty le within in omega (arith, s, c.filled));
}

-- the set has a number of the range
cut_changes : (rs mid : List Run) (a b i t : ℕ) → Cuts rs a b i t → AreLeft mid (left_of rs i a) (right_of rs t b) → take i rs ++ (mid ++ drop t rs) ≡ rs → ⊥
cut_changes rs mid a b i t c left e =
    let n = max a (at rs i).start in
    let first = c.met.meet i empty (omega arith) c.some in
    let inside : i < length rs = omega (arith, c.met.within, c.some) in
    let f = filled 0 rs i empty c.runs inside in
    let here : Has rs n = has_at rs i n empty inside (omega arith, omega (arith, first, f)) in
    let gone : Drops rs rs a b = rw e at (narrows rs mid i t a b (cut_narrows rs mid a b i t c left)) in
    ((gone n).0 here).1 (omega arith, omega (arith, first, c.filled))

cut_front : (rs : List Run) (a b i t j : ℕ) → Cuts rs a b i t → j < i → j < length rs → (at rs j).end < (at rs i).start
cut_front rs a b i t j c lt within = ordered 0 rs j i empty c.runs lt (omega (arith, c.met.within, c.some))

cut_back : (rs : List Run) (a b i t j : ℕ) → Cuts rs a b i t → t ≤ j → j < length rs → (at rs (t - 1)).end < (at rs j).start
cut_back rs a b i t j c le within = ordered 0 rs (t - 1) j empty c.runs (omega (arith, c.some)) within

-- ---- none, one or two runs are left

none_left : (rs : List Run) (a b i t : ℕ) → a ≤ (at rs i).start → (at rs (t - 1)).end ≤ b → AreLeft [] (left_of rs i a) (right_of rs t b)
none_left rs a b i t l r k = (λ h. absurd h, λ h. elim h [ inl x ↦ omega (arith, x, l) | inr x ↦ omega (arith, x, r) ])

first_left : (rs : List Run) (a b i t : ℕ) → (at rs (t - 1)).end ≤ b → AreLeft (left_of rs i a ∷ []) (left_of rs i a) (right_of rs t b)
first_left rs a b i t r k = (λ h. elim h [ inl x ↦ inl x | inr x ↦ absurd x ], λ h. elim h [ inl x ↦ inl x | inr x ↦ absurd (omega (arith, x, r)) ])

last_left : (rs : List Run) (a b i t : ℕ) → a ≤ (at rs i).start → AreLeft (right_of rs t b ∷ []) (left_of rs i a) (right_of rs t b)
last_left rs a b i t l k = (λ h. elim h [ inl x ↦ inr x | inr x ↦ absurd x ], λ h. elim h [ inl x ↦ absurd (omega (arith, x, l)) | inr x ↦ inl x ])

both_left : (rs : List Run) (a b i t : ℕ) → AreLeft (left_of rs i a ∷ right_of rs t b ∷ []) (left_of rs i a) (right_of rs t b)
both_left rs a b i t k = (λ h. elim h [ inl x ↦ inl x | inr x ↦ elim x [ inl y ↦ inr y | inr y ↦ absurd y ] ], λ h. elim h [ inl x ↦ inl x | inr x ↦ inr (inl x) ])

removed_runs : (rs : List Run) (a b i t : ℕ) → Cuts rs a b i t → AreRuns (take i rs ++ drop t rs)
removed_runs rs a b i t c =
    between_runs rs [] i t (at rs i).start c.runs (λ j lt within. cut_front rs a b i t j c lt within) tt
    (λ j le within. let o = ordered 0 rs i j empty c.runs (omega (arith, c.some)) within in let f = filled 0 rs i empty c.runs (omega (arith, c.some)) in omega (arith, o, f))

first_runs : (rs : List Run) (a b i t : ℕ) → Cuts rs a b i t → (at rs i).start < a → AreRuns (take i rs ++ (left_of rs i a ∷ drop t rs))
first_runs rs a b i t c l =
    between_runs rs (left_of rs i a ∷ []) i t (at rs i).start c.runs (λ j lt within. cut_front rs a b i t j c lt within) (omega arith, l, tt)
    (λ j le within. let s = c.met.behind j empty le within in omega (arith, s, c.filled))

last_runs : (rs : List Run) (a b i t : ℕ) → Cuts rs a b i t → b < (at rs (t - 1)).end → AreRuns (take i rs ++ (right_of rs t b ∷ drop t rs))
last_runs rs a b i t c r =
    between_runs rs (right_of rs t b ∷ []) i t b c.runs (λ j lt within. let e = c.met.before j empty lt in omega (arith, e, c.filled)) (omega arith, r, tt)
    (λ j le within. let o = cut_back rs a b i t j c le within in omega (arith, o))

both_runs : (rs : List Run) (a b i t : ℕ) → Cuts rs a b i t → (at rs i).start < a → b < (at rs (t - 1)).end → AreRuns (take i rs ++ (left_of rs i a ∷ right_of rs t b ∷ drop t rs))
both_runs rs a b i t c l r =
    between_runs rs (left_of rs i a ∷ right_of rs t b ∷ []) i t (at rs i).start c.runs (λ j lt within. cut_front rs a b i t j c lt within) (omega arith, l, (omega (arith, c.filled), r, tt))
    (λ j le within. let o = cut_back rs a b i t j c le within in omega (arith, o))

pub removes : (rs : List Run) (a b i t : ℕ) → Cuts rs a b i t → a ≤ (at rs i).start → (at rs (t - 1)).end ≤ b → IsRemoval rs a b (edits.Remove (places i t))
removes rs a b i t c l r = record {
  places = (c.met.ascend, c.met.within);
  short = edited_short rs (edits.Remove (places i t)) (c.met.ascend, c.met.within);
  drops = narrows rs [] i t a b (cut_narrows rs [] a b i t c (none_left rs a b i t l r));
  runs = removed_runs rs a b i t c;
  changes = cut_changes rs [] a b i t c (none_left rs a b i t l r);
  inside = λ h. absurd h;
}

pub leaves_first : (rs : List Run) (a b i t : ℕ) → Cuts rs a b i t → (at rs i).start < a → (at rs (t - 1)).end ≤ b → IsRemoval rs a b (edits.Merge (places i t) (left_of rs i a))
leaves_first rs a b i t c l r = record {
  places = (c.some, c.met.within);
  short = edited_short rs (edits.Merge (places i t) (left_of rs i a)) (c.some, c.met.within);
  drops = narrows rs (left_of rs i a ∷ []) i t a b (cut_narrows rs (left_of rs i a ∷ []) a b i t c (first_left rs a b i t r));
  runs = first_runs rs a b i t c l;
  changes = cut_changes rs (left_of rs i a ∷ []) a b i t c (first_left rs a b i t r);
  inside = λ h. absurd h;
}

pub leaves_last : (rs : List Run) (a b i t : ℕ) → Cuts rs a b i t → a ≤ (at rs i).start → b < (at rs (t - 1)).end → IsRemoval rs a b (edits.Merge (places i t) (right_of rs t b))
leaves_last rs a b i t c l r = record {
  places = (c.some, c.met.within);
  short = edited_short rs (edits.Merge (places i t) (right_of rs t b)) (c.some, c.met.within);
  drops = narrows rs (right_of rs t b ∷ []) i t a b (cut_narrows rs (right_of rs t b ∷ []) a b i t c (last_left rs a b i t l));
  runs = last_runs rs a b i t c r;
  changes = cut_changes rs (right_of rs t b ∷ []) a b i t c (last_left rs a b i t l);
  inside = λ h. absurd h;
}

pub leaves_both : (rs : List Run) (a b i t : ℕ) → Cuts rs a b i t → i + 2 ≤ t → (at rs i).start < a → b < (at rs (t - 1)).end → IsRemoval rs a b (edits.Trim (places i t) (left_of rs i a) (right_of rs t b))
leaves_both rs a b i t c apart l r = record {
  places = (apart, c.met.within);
  short = edited_short rs (edits.Trim (places i t) (left_of rs i a) (right_of rs t b)) (apart, c.met.within);
  drops = narrows rs (left_of rs i a ∷ right_of rs t b ∷ []) i t a b (cut_narrows rs (left_of rs i a ∷ right_of rs t b ∷ []) a b i t c (both_left rs a b i t));
  runs = both_runs rs a b i t c l r;
  changes = cut_changes rs (left_of rs i a ∷ right_of rs t b ∷ []) a b i t c (both_left rs a b i t);
  inside = λ h. absurd h;
}

pub splits : (rs : List Run) (a b i : ℕ) → Cuts rs a b i (i + 1) → (at rs i).start < a → b < (at rs (i + 1 - 1)).end → IsRemoval rs a b (edits.Split (places i (i + 1)) (left_of rs i a) (right_of rs (i + 1) b))
splits rs a b i c l r =
    let same : i + 1 - 1 ≡ i = omega arith in
    let r' : b < (at rs i).end = rw same at r in
    record {
      places = (refl, c.met.within);
      short = edited_short rs (edits.Split (places i (i + 1)) (left_of rs i a) (right_of rs (i + 1) b)) (refl, c.met.within);
      drops = narrows rs (left_of rs i a ∷ right_of rs (i + 1) b ∷ []) i (i + 1) a b (cut_narrows rs (left_of rs i a ∷ right_of rs (i + 1) b ∷ []) a b i (i + 1) c (both_left rs a b i (i + 1)));
      runs = both_runs rs a b i (i + 1) c l r;
      changes = cut_changes rs (left_of rs i a ∷ right_of rs (i + 1) b ∷ []) a b i (i + 1) c (both_left rs a b i (i + 1));
      inside = λ _. (omega arith, c.filled, λ k lo hi. has_at rs i k empty (omega (arith, c.met.within)) (omega (arith, lo, l), omega (arith, hi, r')));
    }

pub splits_at : (rs : List Run) (a b i t : ℕ) → Cuts rs a b i t → t ≡ i + 1 → (at rs i).start < a → b < (at rs (t - 1)).end → IsRemoval rs a b (edits.Split (places i t) (left_of rs i a) (right_of rs t b))
splits_at rs a b i t c e l r = rw e (splits rs a b i (rw e at c) l (rw e at r))

-- no run meets the range
pub none_dropped : (rs : List Run) (a b i : ℕ) → a < b → AreMet rs a (b - 1) i i → Drops rs rs a b
none_dropped rs a b i ab met k = (
  λ h. (
    h,
    λ x. (let j = at_has rs k empty h in
        elim (cases_lt j.0 i) [
          | inl lt ↦ (let e = met.before j.0 empty lt in omega (arith, e, j.2, x))
          | inr le ↦ (let s = met.behind j.0 empty le j.1 in omega (arith, s, j.2, x))
        ]),
  ),
  λ h. h.0,
)

pub drops_nothing : (rs : List Run) (a b : ℕ) → b ≤ a → Drops rs rs a b
drops_nothing rs a b le k = (λ h. (h, λ x. omega (arith, x)), λ h. h.0)

-- ---- looking a number up

pub starts_below : (rs : List Run) (x p : ℕ) → AreRuns rs → ((k : ℕ) (d : Run) → k < p → (get_or rs k d).end ≤ x) → p < length rs → Has rs x → (at rs p).start ≤ x
starts_below rs x p runs front within h =
    let j = at_has rs x empty h in
    elim (cases_lt j.0 p) [
      | inl lt ↦ absurd (let e = front j.0 empty lt in omega (arith, e, j.2))
      | inr le ↦ elim (cases_lt p j.0) [
        | inl lt ↦ (let o = ordered 0 rs p j.0 empty runs lt j.1 in let f = filled 0 rs p empty runs within in omega (arith, o, f, j.2))
        | inr ge ↦ (let same : j.0 ≡ p = omega arith in let it = rw same at j.2 in it.0)
      ]
    ]

pub lacks_all : (rs : List Run) (x p : ℕ) → ((k : ℕ) (d : Run) → k < p → (get_or rs k d).end ≤ x) → length rs ≤ p → Has rs x → ⊥
lacks_all rs x p front le h = let j = at_has rs x empty h in let e = front j.0 empty (omega (arith, j.1)) in omega (arith, e, j.2)

-- ---- a run that comes to be two

set_first : (rs ys : List Run) (p : ℕ) (l : Run) → p < length rs → set (take (suc p) rs ++ ys) p l ≡ take p rs ++ (l ∷ ys)
set_first [] ys p l lt = absurd (omega arith)
set_first (x ∷ rs) ys zero l lt = refl
set_first (x ∷ rs) ys (suc p) l lt = ap (λ (zs : List Run). x ∷ zs) (set_first rs ys p l (omega arith))

pub split_is : (rs : List Run) (i t : ℕ) (l r : Run) → i + 1 ≡ t → t ≤ length rs → set (insert rs t r) i l ≡ take i rs ++ (l ∷ r ∷ drop t rs)
split_is rs i t l r e le = rw (← e, add-one) (set_first rs (r ∷ drop (suc i) rs) i l (omega arith))

-- the same where the list is written through a slice, which keeps its length
pub split_refills : (rs : List Run) (i t : ℕ) (l r : Run) → i + 1 ≡ t → t ≤ length rs → refill (length (insert rs t r)) (insert rs t r) (set (insert rs t r) i l) ≡ take i rs ++ (l ∷ r ∷ drop t rs)
split_refills rs i t l r e le =
    let ys = insert rs t r in
    take_at (set ys i l) (drop (length (set ys i l)) ys) (length ys) (length-set ys i l) ∙ split_is rs i t l r e le

-- ---- the first and the last

pub got : (rs : List Run) (i : ℕ) (r : Run) → slice_get rs i ≡ Some r → (i < length rs) × (at rs i ≡ r)
got [] i r e = absurd cc
got (x ∷ rs) zero r e = (omega arith, cc)
got (x ∷ rs) (suc i) r e = let g = got rs i r e in (omega (arith, g.0), g.1)

pub least_is : (rs : List Run) (r : Run) → AreRuns rs → slice_get rs 0 ≡ Some r → IsLeast rs r.start
least_is rs r runs e =
    let g = got rs 0 r e in
    let f = filled 0 rs 0 empty runs g.0 in
    rw (← g.1) (has_at rs 0 (at rs 0).start empty g.0 (omega arith, f), λ k h. (let j = at_has rs k empty h in let o = starts_rise rs runs 0 j.0 empty (omega arith) j.1 in omega (arith, o, j.2)))

pub greatest_is : (rs : List Run) (r : Run) → AreRuns rs → slice_get rs (length rs - 1) ≡ Some r → IsGreatest rs (r.end - 1)
greatest_is rs r runs e =
    let g = got rs (length rs - 1) r e in
    let f = filled 0 rs (length rs - 1) empty runs g.0 in
    rw (← g.1) (has_at rs (length rs - 1) ((at rs (length rs - 1)).end - 1) empty g.0 (omega (arith, f), omega (arith, f)), λ k h. (let j = at_has rs k empty h in let o = ends_rise rs runs j.0 (length rs - 1) empty (omega (arith, j.1)) g.0 in omega (arith, o, j.2)))

pub not_empty : (rs : List Run) (r : Run) (i : ℕ) → AreRuns rs → slice_get rs i ≡ Some r → 0 < r.end
not_empty rs r i runs e = let g = got rs i r e in let f = filled 0 rs i empty runs g.0 in rw (← g.1) (omega (arith, f))

pub tail_runs : (rs : List Run) → AreRuns rs → AreRuns (remove rs 0)
tail_runs [] h = tt
tail_runs (r ∷ rs) h = lower (r.end + 1) 0 rs (omega arith) h.2

-- ---- run after run

has_more : (rs : List Run) (i k : ℕ) → i < length rs → Has (take (i + 1) rs) k → Has (take i rs) k ⊎ In k (at rs i)
has_more rs i k lt h = elim (has_either (take i rs) (at rs i ∷ []) k (rw (take_more rs i empty lt) at h)) [ inl x ↦ inl x | inr x ↦ elim x [ inl y ↦ inr y | inr y ↦ absurd y ] ]

more_has : (rs : List Run) (i k : ℕ) → i < length rs → Has (take i rs) k ⊎ In k (at rs i) → Has (take (i + 1) rs) k
more_has rs i k lt h = rw (take_more rs i empty lt) (elim h [ inl x ↦ has_left (take i rs) (at rs i ∷ []) k x | inr x ↦ has_right (take i rs) (at rs i ∷ []) k (inl x) ])

pub union_none : (rs other : List Run) → IsUnion rs (take 0 other) rs
union_none rs other k = (λ h. inl h, λ h. elim h [ inl x ↦ x | inr x ↦ absurd x ])

pub union_more : (old other mid new : List Run) (i : ℕ) → i < length other → IsUnion old (take i other) mid → Adds mid new (at other i).start (at other i).end → IsUnion old (take (i + 1) other) new
union_more old other mid new i lt so_far adds k = (
  λ h. elim ((adds k).0 h) [
    | inl x ↦ elim ((so_far k).0 x) [ inl y ↦ inl y | inr y ↦ inr (more_has other i k lt (inl y)) ]
    | inr x ↦ inr (more_has other i k lt (inr x))
  ],
  λ h. (adds k).1 (elim h [
    | inl x ↦ inl ((so_far k).1 (inl x))
    | inr x ↦ elim (has_more other i k lt x) [ inl y ↦ inl ((so_far k).1 (inr y)) | inr y ↦ inr y ]
  ]),
)

pub union_all : (old other new : List Run) (i : ℕ) → length other ≤ i → IsUnion old (take i other) new → IsUnion old other new
union_all old other new i le h = rw (take_all i other le) at h

pub difference_none : (rs other : List Run) → IsDifference rs (take 0 other) rs
difference_none rs other k = (λ h. (h, λ x. x), λ h. h.0)

pub difference_more : (old other mid new : List Run) (i : ℕ) → i < length other → IsDifference old (take i other) mid → Drops mid new (at other i).start (at other i).end → IsDifference old (take (i + 1) other) new
difference_more old other mid new i lt so_far drops k = (
  λ h. (((so_far k).0 ((drops k).0 h).0).0, λ x. elim (has_more other i k lt x) [ inl y ↦ ((so_far k).0 ((drops k).0 h).0).1 y | inr y ↦ ((drops k).0 h).1 y ]),
  λ h. (drops k).1 ((so_far k).1 (h.0, λ x. h.1 (more_has other i k lt (inl x))), λ x. h.1 (more_has other i k lt (inr x))),
)

pub difference_all : (old other new : List Run) (i : ℕ) → length other ≤ i → IsDifference old (take i other) new → IsDifference old other new
difference_all old other new i le h = rw (take_all i other le) at h
