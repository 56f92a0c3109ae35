-- Sets of offsets as their maximal runs: what they have, and one range or the runs of another set
-- more or less.
use Rattle.std.specs.Prelude.{ℕ, Bool, true, false, cond, ltb, leb, ◌&&◌, ◌||◌, max, List, [], ◌∷◌, ◌++◌, map}
use Rattle.std.specs.List.{filter}
use Rattle.quic_sets.specs.Runs.{Run}
use Rattle.quic_sets.specs.Pieces.{pieces, is_filled, with_range}

-- whether an offset is one from a up to z
abbrev pub is_within : ℕ → ℕ → ℕ → Bool
is_within a z o = leb a o && ltb o z

-- whether a set has an offset
abbrev pub has : List Run → ℕ → Bool
has [] o = false
has (r ∷ rs) o = is_within r.start r.end o || has rs o

-- whether a set has an offset at all
abbrev pub has_any : List Run → Bool
has_any [] = false
has_any (r ∷ rs) = true

-- the first run, or else another
abbrev pub first_or : List Run → Run → Run
first_or [] other = other
first_or (r ∷ rs) other = r

-- the least offset that a set lacks
abbrev pub first_lacking : List Run → ℕ
first_lacking [] = 0
first_lacking (r ∷ rs) = cond (ltb 0 r.start) 0 r.end

-- the offsets from a up to z
abbrev pub span : ℕ → ℕ → List Run
span a z = cond (ltb a z) (record { start = a; end = z } ∷ []) []

-- the runs of a set that has each offset below `first`, but not that one, and others above it
abbrev pub with_prefix : ℕ → List Run → List Run
with_prefix first rs = cond (ltb 0 first) (record { start = 0; end = first } ∷ rs) rs

-- with the offsets from a up to z; an empty or reversed range has none
unfoldable pub with_offsets : ℕ → ℕ → List Run → List Run
with_offsets a z rs = cond (ltb a z) (with_range a z rs) rs

-- the parts of the runs from z on, empty ones left out
unfoldable pub parts_from : ℕ → List Run → List Run
parts_from z rs = filter is_filled (map (λ r. record { start = max z r.start; end = r.end }) rs)

-- without the offsets from a up to z: the parts below a, then those from z on
unfoldable pub without_offsets : ℕ → ℕ → List Run → List Run
without_offsets a z rs = cond (ltb a z) (pieces 0 a rs ++ parts_from z rs) rs

-- the second set with the offsets of the first
abbrev pub with_all : List Run → List Run → List Run
with_all [] rs = rs
with_all (o ∷ others) rs = with_all others (with_offsets o.start o.end rs)

-- the second set without the offsets of the first
abbrev pub without_all : List Run → List Run → List Run
without_all [] rs = rs
without_all (o ∷ others) rs = without_all others (without_offsets o.start o.end rs)

-- the offsets from a up to z that a set lacks
abbrev pub lacking : ℕ → ℕ → List Run → List Run
lacking a z rs = without_all rs (span a z)
