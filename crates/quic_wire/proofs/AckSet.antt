-- The ranges of a set go down, hold the numbers of the set, and are as many as its runs.
use Rattle.std.proofs.Common.{◌≡◌, ℕ, ◌+◌, ◌-◌, ◌*◌, ◌≤◌, ◌<◌, ◌^◌, List, [], ◌∷◌, ◌++◌, length, map, reverse, Option, None, refl, sym, ap, ◌∙◌, ◌↔◌, ◌⊎◌, inl, inr, arith}
use Rattle.std.proofs.lemmas.List.{length-map, length-reverse, map-append, reverse-append, nil_from_length}
use Rattle.quic_sets.specs.Runs.{Run, Has, AreRunsFrom, AreRuns}
use Rattle.quic_wire.specs.AckGrammar.{Below, GoDown, EcnFits, AckFits, InRanges, has_ecn, range_numbers, ecn_numbers, ack_numbers}
use Rattle.quic_wire.specs.FrameTypes.{is_ack, type_of}
use Rattle.quic_wire.specs.AckSet.{range_of_run, ranges_of_set, greatest, ack_of_set, IsSmall}

-- the lowest run is the last range
set_cons : (r : Run) (rs : List Run) → ranges_of_set (r ∷ rs) ≡ ranges_of_set rs ++ range_of_run r ∷ []
set_cons r rs = reverse-append (range_of_run r ∷ []) (map range_of_run rs)

-- the highest run is the first range
pub set_snoc : (rs : List Run) (r : Run) → ranges_of_set (rs ++ r ∷ []) ≡ range_of_run r ∷ ranges_of_set rs
set_snoc rs r = ap reverse (map-append range_of_run rs (r ∷ [])) ∙ reverse-append (map range_of_run rs) (range_of_run r ∷ [])

-- the runs below the highest
pub runs_snoc : (rs : List Run) (n : ℕ) (r : Run) → AreRunsFrom n (rs ++ r ∷ []) → AreRunsFrom n rs × (r.start < r.end)
runs_snoc [] n r h = (tt, h.1)
runs_snoc (x ∷ rs) n r h = let k = runs_snoc rs (x.end + 1) r h.2 in ((h.0, h.1, k.0), k.1)

-- as many ranges as runs
pub set_length : (rs : List Run) → length (ranges_of_set rs) ≡ length rs
set_length rs = length-reverse (map range_of_run rs) ∙ length-map rs range_of_run

-- ---- they go down

-- the least number of ranges below a number, or that number
abbrev bottom : ℕ → List (ℕ × ℕ) → ℕ
bottom low [] = low
bottom low (x ∷ xs) = bottom x.0 xs

below_snoc : (xs : List (ℕ × ℕ)) (low : ℕ) (r : ℕ × ℕ) → Below low xs → r.0 ≤ r.1 → r.1 + 2 ≤ bottom low xs → Below low (xs ++ r ∷ [])
below_snoc [] low r h le under = (le, under, tt)
below_snoc (x ∷ xs) low r h le under = (h.0, h.1, below_snoc xs x.0 r h.2 le under)

bottom_snoc : (xs : List (ℕ × ℕ)) (low : ℕ) (r : ℕ × ℕ) → bottom low (xs ++ r ∷ []) ≡ r.0
bottom_snoc [] low r = refl
bottom_snoc (x ∷ xs) low r = bottom_snoc xs x.0 r

-- where the next run may begin
abbrev next_start : ℕ → List Run → ℕ
next_start n [] = n
next_start n (r ∷ rs) = next_start (r.end + 1) rs

set_below : (rs : List Run) (n low : ℕ) → AreRunsFrom n rs → next_start n rs ≤ low → Below low (ranges_of_set rs) × (n ≤ bottom low (ranges_of_set rs))
set_below [] n low h le = (tt, le)
set_below (r ∷ rs) n low h le =
    let k = set_below rs (r.end + 1) low h.2 le in
    let start : n ≤ r.start = h.0 in
    let some : r.start < r.end = h.1 in
    let above : r.end + 1 ≤ bottom low (ranges_of_set rs) = k.1 in
    rw (set_cons r rs) (below_snoc (ranges_of_set rs) low (range_of_run r) k.0 (omega arith) (omega arith), rw (bottom_snoc (ranges_of_set rs) low (range_of_run r)) start)

down_from : (xs : List (ℕ × ℕ)) (low : ℕ) → Below low xs → (xs ≡ [] → ⊥) → GoDown (greatest xs) xs
down_from [] low h some = some refl
down_from (x ∷ xs) low h some = (h.0, refl, h.2)

-- the ranges of a set that isn't empty go down
pub set_down : (rs : List Run) → AreRuns rs → (rs ≡ [] → ⊥) → GoDown (greatest (ranges_of_set rs)) (ranges_of_set rs)
set_down rs h some =
    down_from (ranges_of_set rs) (next_start 0 rs) (set_below rs 0 (next_start 0 rs) h (omega arith)).0
    (λ e. some (nil_from_length rs (sym (set_length rs) ∙ ap length e)))

-- ranges that go down from a number are few
pub below_few : (xs : List (ℕ × ℕ)) (low : ℕ) → Below low xs → 2 * length xs ≤ low
below_few [] low h = omega arith
below_few (x ∷ xs) low h =
    let k : 2 * length xs ≤ x.0 = below_few xs x.0 h.2 in
    let a : x.0 ≤ x.1 = h.0 in
    let b : x.1 + 2 ≤ low = h.1 in
    omega arith

-- ---- they hold the numbers of the set

in_append : (xs ys : List (ℕ × ℕ)) (n : ℕ) → InRanges (xs ++ ys) n → InRanges xs n ⊎ InRanges ys n
in_append [] ys n h = inr h
in_append (x ∷ xs) ys n (inl h) = inl (inl h)
in_append (x ∷ xs) ys n (inr h) = elim (in_append xs ys n h) [ inl k ↦ inl (inr k) | inr k ↦ inr k ]

in_front : (xs ys : List (ℕ × ℕ)) (n : ℕ) → InRanges xs n → InRanges (xs ++ ys) n
in_front [] ys n h = absurd h
in_front (x ∷ xs) ys n (inl h) = inl h
in_front (x ∷ xs) ys n (inr h) = inr (in_front xs ys n h)

in_behind : (xs ys : List (ℕ × ℕ)) (n : ℕ) → InRanges ys n → InRanges (xs ++ ys) n
in_behind [] ys n h = h
in_behind (x ∷ xs) ys n h = inr (in_behind xs ys n h)

set_has : (rs : List Run) (lo n : ℕ) → AreRunsFrom lo rs → Has rs n → InRanges (ranges_of_set rs) n
set_has [] lo n h k = absurd k
set_has (r ∷ rs) lo n h (inl k) = rw (set_cons r rs) (in_behind (ranges_of_set rs) (range_of_run r ∷ []) n (inl (k.0, (let a : n < r.end = k.1 in omega arith))))
set_has (r ∷ rs) lo n h (inr k) = rw (set_cons r rs) (in_front (ranges_of_set rs) (range_of_run r ∷ []) n (set_has rs (r.end + 1) n h.2 k))

has_set : (rs : List Run) (lo n : ℕ) → AreRunsFrom lo rs → InRanges (ranges_of_set rs) n → Has rs n
has_set [] lo n h k = absurd k
has_set (r ∷ rs) lo n h k =
    elim (in_append (ranges_of_set rs) (range_of_run r ∷ []) n (rw (set_cons r rs) at k)) [
      | inl a ↦ inr (has_set rs (r.end + 1) n h.2 a)
      | inr a ↦ elim a [
        | inl b ↦ (let some : r.start < r.end = h.1 in let le : n ≤ r.end - 1 = b.1 in inl (b.0, omega arith))
        | inr b ↦ absurd b
      ]
    ]

-- a number is in the set exactly where a range holds it
pub set_numbers : (rs : List Run) (n : ℕ) → AreRuns rs → Has rs n ↔ InRanges (ranges_of_set rs) n
set_numbers rs n h = (set_has rs 0 n h, has_set rs 0 n h)

in_greatest : (xs : List (ℕ × ℕ)) → GoDown (greatest xs) xs → InRanges xs (greatest xs)
in_greatest [] h = absurd h
in_greatest (x ∷ xs) h = inl (h.0, (let le : x.1 ≤ x.1 = omega arith in le))

-- the ACK of a set of packet numbers that isn't empty has a form
pub set_fits : (delay : ℕ) (rs : List Run) (ecn : Option (ℕ × ℕ × ℕ)) → AreRuns rs → (rs ≡ [] → ⊥) → IsSmall rs → delay < 2 ^ 62 → EcnFits ecn → AckFits (ack_of_set delay rs ecn)
set_fits delay rs ecn h some small lt counts =
    let down = set_down rs h some in
    (small (greatest (ranges_of_set rs)) (has_set rs 0 (greatest (ranges_of_set rs)) h (in_greatest (ranges_of_set rs) down)), lt, counts, down)

-- what is known of the highest run of a set, and of those below it
pub record Highest (lower : List Run) (last : Run) : Type 0 where
  pub runs : AreRuns lower
  pub some : last.start < last.end
  pub down : Below last.start (ranges_of_set lower)
  pub small : last.end - 1 < 2 ^ 62
  pub few : length lower < 2 ^ 62

pub highest : (runs lower : List Run) (last : Run) → runs ≡ lower ++ last ∷ [] → AreRuns runs → (runs ≡ [] → ⊥) → IsSmall runs → Highest lower last
highest runs lower last is h some small =
    let ranges : ranges_of_set runs ≡ range_of_run last ∷ ranges_of_set lower = ap ranges_of_set is ∙ set_snoc lower last in
    let parts = runs_snoc lower 0 last (rw is at h) in
    let fits = set_fits 0 runs None h some small (omega arith) tt in
    let largest : greatest (ranges_of_set runs) ≡ last.end - 1 = ap greatest ranges in
    let below : Below last.start (ranges_of_set lower) = (rw ranges at (set_down runs h some)).2 in
    let count : 2 * length (ranges_of_set lower) ≤ last.start = below_few (ranges_of_set lower) last.start below in
    let len = set_length lower in
    let top : greatest (ranges_of_set runs) < 2 ^ 62 = fits.0 in
    let filled = parts.1 in
    record { runs = parts.0; some = parts.1; down = below; small = omega (arith, largest, top); few = omega (arith, largest, top, count, len, filled) }

-- the numbers of the ACK of a set up to its first range
abbrev pub head_of : ℕ → ℕ → List Run → Run → List ℕ
head_of type delay lower last = type ∷ (last.end - 1) ∷ delay ∷ length lower ∷ (last.end - 1 - last.start) ∷ []

-- the numbers of the ACK of a set, by its highest run and the others
pub set_numbers_are : (delay : ℕ) (runs lower : List Run) (last : Run) (ecn : Option (ℕ × ℕ × ℕ)) (type : ℕ) → runs ≡ lower ++ last ∷ [] → type ≡ type_of (is_ack (has_ecn ecn))
    → ack_numbers (ack_of_set delay runs ecn) (ranges_of_set runs)
    ≡ head_of type delay lower last ++ (range_numbers last.start (ranges_of_set lower) ++ ecn_numbers ecn)
set_numbers_are delay runs lower last ecn type is named =
    let ranges : ranges_of_set runs ≡ range_of_run last ∷ ranges_of_set lower = ap ranges_of_set is ∙ set_snoc lower last in
    let tail = range_numbers last.start (ranges_of_set lower) ++ ecn_numbers ecn in
    let count : length (ranges_of_set lower) ≡ length lower = set_length lower in
    ap (λ (rs : List (ℕ × ℕ)). ack_numbers (record { largest = greatest rs; delay = delay; ranges = rs; ecn = ecn }) rs) ranges
    ∙ ap (λ (n : ℕ). type_of (is_ack (has_ecn ecn)) ∷ (last.end - 1) ∷ delay ∷ n ∷ (last.end - 1 - last.start) ∷ tail) count
    ∙ ap (λ (n : ℕ). n ∷ (last.end - 1) ∷ delay ∷ length lower ∷ (last.end - 1 - last.start) ∷ tail) (sym named)
