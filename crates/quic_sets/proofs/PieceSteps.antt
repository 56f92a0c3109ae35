-- The pieces of runs in a range.
use Rattle.std.proofs.Common.{◌≡◌, ℕ, ◌+◌, ◌≤◌, ◌<◌, ◌⊎◌, ◌↔◌, ltb, leb, cond, min, max, List, [], ◌∷◌, map, drop, length, get_or, refl, sym, ap, subst, ◌∙◌, inl, inr, arith}
use Rattle.std.proofs.lemmas.Bool.{cases_lt, lt-ltb, le-ltb, le-leb, lt-leb}
use Rattle.std.proofs.lemmas.List.{drop_more}
use Rattle.std.proofs.lemmas.List.Sums.{take_while-cons}
use Rattle.std.specs.List.{take_while}
use Rattle.quic_sets.specs.Runs.{Run, Has, AreRunsFrom, AreRuns, Adds}
use Rattle.quic_sets.specs.Pieces.{cut, pieces, count_up_to, count_started, count_met, with_range, joined}
use Rattle.quic_sets.proofs.Joining.{lower, with_range_runs, with_range_is, adds_none}
use Rattle.quic_sets.proofs.JoinSteps.{count_yes, count_no, span, joined_empty, joined_some}

piece_yes : (a b : ℕ) (r : Run) (rs : List Run) → max a r.start < min b r.end → pieces a b (r ∷ rs) ≡ cut a b r ∷ pieces a b rs
unfolding pieces
piece_yes a b r rs lt = ap (λ c. cond c (cut a b r ∷ pieces a b rs) (pieces a b rs)) (lt-ltb (max a r.start) (min b r.end) lt)

piece_no : (a b : ℕ) (r : Run) (rs : List Run) → min b r.end ≤ max a r.start → pieces a b (r ∷ rs) ≡ pieces a b rs
unfolding pieces
piece_no a b r rs le = ap (λ c. cond c (cut a b r ∷ pieces a b rs) (pieces a b rs)) (le-ltb (max a r.start) (min b r.end) le)

-- an empty range has no piece
pub pieces_empty : (a b : ℕ) (rs : List Run) → b ≤ a → pieces a b rs ≡ []
unfolding pieces
pieces_empty a b [] le = refl
pieces_empty a b (r ∷ rs) le = piece_no a b r rs (omega arith) ∙ pieces_empty a b rs le

-- nor have runs that start behind the range
pieces_behind : (m a b : ℕ) (rs : List Run) → b ≤ m → AreRunsFrom m rs → pieces a b rs ≡ []
unfolding pieces
pieces_behind m a b [] le h = refl
pieces_behind m a b (r ∷ rs) le h = piece_no a b r rs (omega (arith, h.0)) ∙ pieces_behind (r.end + 1) a b rs (omega (arith, h.0, h.1)) h.2

-- nor has a range that meets and touches no run
pub pieces_apart : (m a b : ℕ) (rs : List Run) → AreRunsFrom m rs → count_met a b rs ≡ 0 → pieces a b rs ≡ []
unfolding pieces
pieces_apart m a b [] h e = refl
pieces_apart m a b (r ∷ rs) h e = elim (cases_lt r.end a) [
  | inl lt ↦
      (let count = count_yes (λ (x : Run). ltb x.end a) r rs (lt-ltb r.end a lt) in
      let rest : count_met a b rs ≡ 0 = sym (ap (λ n. count_started b (drop n (r ∷ rs))) count) ∙ e in
      piece_no a b r rs (omega arith) ∙ pieces_apart (r.end + 1) a b rs h.2 rest)
  | inr le ↦
      (let count = count_no (λ (x : Run). ltb x.end a) r rs (le-ltb r.end a le) in
      let rest : count_started b (r ∷ rs) ≡ 0 = sym (ap (λ n. count_started b (drop n (r ∷ rs))) count) ∙ e in
      elim (cases_lt b r.start) [
        | inl lt ↦ pieces_behind r.start a b (r ∷ rs) (omega arith) (omega arith, h.1, h.2)
        | inr started ↦ absurd (let more = count_yes (λ (x : Run). leb x.start b) r rs (le-leb r.start b started) in let zero_is = sym rest ∙ more in cc)
      ])
]

-- the first run ends behind a
abbrev EndsBehind : ℕ → List Run → Type 0
EndsBehind a [] = Unit {0}
EndsBehind a (r ∷ rs) = a < r.end

ends_behind : (m a : ℕ) (rs : List Run) → a ≤ m → AreRunsFrom m rs → EndsBehind a rs
ends_behind m a [] le h = tt
ends_behind m a (r ∷ rs) le h = omega (arith, h.0, h.1)

abbrev pub starting : ℕ → List Run → List Run
starting b rs = take_while (λ (x : Run). ltb x.start b) rs

starting_yes : (b : ℕ) (r : Run) (rs : List Run) → r.start < b → starting b (r ∷ rs) ≡ r ∷ starting b rs
starting_yes b r rs lt = take_while-cons (λ (x : Run). ltb x.start b) r rs ∙ ap (λ c. cond c (r ∷ starting b rs) []) (lt-ltb r.start b lt)

starting_no : (b : ℕ) (r : Run) (rs : List Run) → b ≤ r.start → starting b (r ∷ rs) ≡ []
starting_no b r rs le = take_while-cons (λ (x : Run). ltb x.start b) r rs ∙ ap (λ c. cond c (r ∷ starting b rs) []) (le-ltb r.start b le)

-- of runs that end behind a, those that start below b have a piece
cut_each : (m a b : ℕ) (rs : List Run) → a < b → EndsBehind a rs → AreRunsFrom m rs → map (cut a b) (starting b rs) ≡ pieces a b rs
unfolding pieces
cut_each m a b [] ab ends h = refl
cut_each m a b (r ∷ rs) ab ends h = elim (cases_lt r.start b) [
  | inl lt ↦ ap (map (cut a b)) (starting_yes b r rs lt)
      ∙ ap (λ (xs : List Run). cut a b r ∷ xs) (cut_each (r.end + 1) a b rs ab (ends_behind (r.end + 1) a rs (omega (arith, ends)) h.2) h.2)
      ∙ sym (piece_yes a b r rs (omega (arith, ends, h.1)))
  | inr le ↦ ap (map (cut a b)) (starting_no b r rs le) ∙ sym (pieces_behind r.start a b (r ∷ rs) le (omega arith, h.1, h.2))
]

cut_from : (m a b : ℕ) (rs : List Run) → a < b → AreRunsFrom m rs → map (cut a b) (starting b (drop (count_up_to a rs) rs)) ≡ pieces a b rs
unfolding pieces
cut_from m a b [] ab h = refl
cut_from m a b (r ∷ rs) ab h = elim (cases_lt a r.end) [
  | inl lt ↦ ap (λ n. map (cut a b) (starting b (drop n (r ∷ rs)))) (count_no (λ (x : Run). leb x.end a) r rs (lt-leb r.end a lt)) ∙ cut_each m a b (r ∷ rs) ab lt h
  | inr le ↦ ap (λ n. map (cut a b) (starting b (drop n (r ∷ rs)))) (count_yes (λ (x : Run). leb x.end a) r rs (le-leb r.end a le)) ∙ cut_from (r.end + 1) a b rs ab h.2 ∙ sym (piece_no a b r rs (omega arith))
]

-- the run at i is cut next
pub next_piece : (a b i : ℕ) (rs : List Run) (r d : Run) → i < length rs → r ≡ get_or rs i d → r.start < b → map (cut a b) (starting b (drop i rs)) ≡ cut a b r ∷ map (cut a b) (starting b (drop (i + 1) rs))
next_piece a b i rs r d lt is start =
    let here : drop i rs ≡ r ∷ drop (i + 1) rs = drop_more rs i d lt ∙ ap (λ (x : Run). x ∷ drop (i + 1) rs) (sym is) in
    ap (λ (xs : List Run). map (cut a b) (starting b xs)) here ∙ ap (map (cut a b)) (starting_yes b r (drop (i + 1) rs) start)

starts_none : (rs : List Run) → starting 0 rs ≡ []
starts_none [] = refl
starts_none (r ∷ rs) = starting_no 0 r rs (omega arith)

-- what is cut from the first run that ends behind a on are the pieces
pub cut_is : (a b : ℕ) (rs : List Run) → AreRuns rs → (a < b) ⊎ (b ≡ 0) → map (cut a b) (starting b (drop (count_up_to a rs) rs)) ≡ pieces a b rs
cut_is a b rs h either = elim either [
  | inl ab ↦ cut_from 0 a b rs ab h
  | inr none ↦ ap (λ n. map (cut a b) (starting n (drop (count_up_to a rs) rs))) none ∙ ap (map (cut a b)) (starts_none (drop (count_up_to a rs) rs)) ∙ sym (pieces_empty a b rs (omega (arith, none)))
]

-- ---- which numbers the pieces have, and that they are runs

pub pieces_only : (a b : ℕ) (rs : List Run) (k : ℕ) → Has (pieces a b rs) k → Has rs k × ((a ≤ k) × (k < b))
unfolding pieces
pieces_only a b [] k h = absurd h
pieces_only a b (r ∷ rs) k h = elim (cases_lt (max a r.start) (min b r.end)) [
  | inl lt ↦ elim (rw (piece_yes a b r rs lt) at h) [
    | inl i ↦ (inl (omega (arith, i.0), omega (arith, i.1)), (omega (arith, i.0), omega (arith, i.1)))
    | inr i ↦ (let p = pieces_only a b rs k i in (inr p.0, p.1))
  ]
  | inr le ↦ (let p = pieces_only a b rs k (rw (piece_no a b r rs le) at h) in (inr p.0, p.1))
]

pub pieces_all : (a b : ℕ) (rs : List Run) (k : ℕ) → Has rs k → a ≤ k → k < b → Has (pieces a b rs) k
unfolding pieces
pieces_all a b [] k h lo hi = absurd h
pieces_all a b (r ∷ rs) k h lo hi = elim (cases_lt (max a r.start) (min b r.end)) [
  | inl lt ↦ rw (piece_yes a b r rs lt) (elim h [
    | inl i ↦ inl (omega (arith, i.0), omega (arith, i.1))
    | inr i ↦ inr (pieces_all a b rs k i lo hi)
  ])
  | inr le ↦ rw (piece_no a b r rs le) (elim h [
    | inl i ↦ absurd (omega (arith, i.0, i.1))
    | inr i ↦ pieces_all a b rs k i lo hi
  ])
]

pub pieces_numbers : (a b : ℕ) (rs : List Run) (k : ℕ) → Has (pieces a b rs) k ↔ (Has rs k × ((a ≤ k) × (k < b)))
pieces_numbers a b rs k = (pieces_only a b rs k, λ h. pieces_all a b rs k h.0 h.1.0 h.1.1)

pub pieces_runs : (m a b : ℕ) (rs : List Run) → AreRunsFrom m rs → AreRunsFrom m (pieces a b rs)
unfolding pieces
pieces_runs m a b [] h = tt
pieces_runs m a b (r ∷ rs) h = elim (cases_lt (max a r.start) (min b r.end)) [
  | inl lt ↦ rw (piece_yes a b r rs lt) (omega (arith, h.0), lt, lower (r.end + 1) (min b r.end + 1) (pieces a b rs) (omega arith) (pieces_runs (r.end + 1) a b rs h.2))
  | inr le ↦ rw (piece_no a b r rs le) (lower (r.end + 1) m (pieces a b rs) (omega (arith, h.0, h.1)) (pieces_runs (r.end + 1) a b rs h.2))
]

-- ---- what `begin` leaves: the range stands apart, meets runs, or is empty

pub record Begun (old new : List Run) (a b : ℕ) (rest : Run) : Type 0 where
  pub pieces : pieces rest.start rest.end new ≡ pieces a b old
  pub left : Adds old (joined rest.start rest.end new) a b
  pub runs : AreRuns (joined rest.start rest.end new)
  pub stays : AreRuns new

pub begun_apart : (a b : ℕ) (old mid new : List Run) → AreRuns old → a < b → mid ≡ old → (count_met a b mid ≡ 0) × (new ≡ with_range a b mid) → Begun old new a b (span 0 0)
begun_apart a b old mid new h ab same put =
    let none : count_met a b old ≡ 0 = subst (λ (rs : List Run). count_met a b rs ≡ 0) same put.0 in
    let is : new ≡ with_range a b old = put.1 ∙ ap (with_range a b) same in
    let here : joined 0 0 new ≡ with_range a b old = joined_empty 0 0 new (omega arith) ∙ is in
    let runs : AreRuns (with_range a b old) = with_range_runs 0 a b old (omega arith) ab h in
    record {
      pieces = pieces_empty 0 0 new (omega arith) ∙ sym (pieces_apart 0 a b old h none);
      left = subst (λ (rs : List Run). Adds old rs a b) (sym here) (with_range_is a b old h);
      runs = subst AreRuns (sym here) runs;
      stays = subst AreRuns (sym is) runs;
    }

pub begun_met : (a b : ℕ) (old mid new : List Run) → AreRuns old → a < b → mid ≡ old → (0 < count_met a b mid) × (new ≡ mid) → Begun old new a b (span a b)
begun_met a b old mid new h ab same put =
    let is : new ≡ old = put.1 ∙ same in
    let met : 0 < count_met a b old = subst (λ (rs : List Run). 0 < count_met a b rs) same put.0 in
    let here : joined a b new ≡ with_range a b old = ap (joined a b) is ∙ joined_some a b old ab met in
    record {
      pieces = ap (pieces a b) is;
      left = subst (λ (rs : List Run). Adds old rs a b) (sym here) (with_range_is a b old h);
      runs = subst AreRuns (sym here) (with_range_runs 0 a b old (omega arith) ab h);
      stays = subst AreRuns (sym is) h;
    }

pub begun_none : (a b : ℕ) (old : List Run) → AreRuns old → b ≤ a → Begun old old a b (span 0 0)
begun_none a b old h le =
    let here : joined 0 0 old ≡ old = joined_empty 0 0 old (omega arith) in
    record {
      pieces = pieces_empty 0 0 old (omega arith) ∙ sym (pieces_empty a b old le);
      left = subst (λ (rs : List Run). Adds old rs a b) (sym here) (adds_none a b old le);
      runs = subst AreRuns (sym here) h;
      stays = h;
    }
