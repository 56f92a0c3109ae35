-- A set of offsets as its maximal runs, in ascending order.
use Rattle.std.specs.Prelude.{ℕ, ◌+◌, ◌-◌, ◌^◌, ◌<◌, ◌≤◌, ◌==◌, Bool, false, cond, ltb, min, not, ◌&&◌, ◌||◌, List, [], ◌∷◌, ◌++◌, Option, Some, None}
use Rattle.std.specs.List.{filter}
use Rattle.std.specs.Option.{unwrap_or}
use Rattle.std.specs.Ordering.{nat_cmp}
use Rattle.std.specs.BTreeMap.{is_at}
use Rattle.std.specs.Map.{lookup}

-- a run: the offset behind its last, and its first
abbrev pub Span : Type 0
Span = ℕ × ℕ

-- runs from `low` on, none empty, with an offset between each and the next
abbrev pub AreSpans : ℕ → List Span → Type 0
AreSpans low [] = low ≤ 2 ^ 62
AreSpans low (g ∷ gs) = (low ≤ g.1) × (g.1 < g.0) × AreSpans (g.0 + 1) gs

-- whether an offset is in a run
abbrev pub in_span : ℕ → Span → Bool
in_span o g = not (ltb o g.1) && ltb o g.0

-- whether an offset is in the set
abbrev pub in_spans : List Span → ℕ → Bool
in_spans [] o = false
in_spans (g ∷ gs) o = in_span o g || in_spans gs o

-- how many offsets are in the set
abbrev pub width_of : List Span → ℕ
width_of [] = 0
width_of (g ∷ gs) = (g.0 - g.1) + width_of gs

-- the first run that ends behind an offset
abbrev pub next_span : ℕ → List Span → Option Span
next_span at [] = None
next_span at (g ∷ gs) = cond (ltb at g.0) (Some g) (next_span at gs)

-- where such a run begins and ends
abbrev pub ends_of : Span → ℕ × ℕ
ends_of g = (g.1, g.0)

-- whether offsets up to `end` lie before that run
abbrev pub IsFree : ℕ → Option Span → Type 0
IsFree end None = Unit {0}
IsFree end (Some g) = end ≤ g.1

-- where the run that ends at an offset begins, or else that offset
abbrev pub first_from : ℕ → List Span → ℕ
first_from start gs = unwrap_or (lookup (is_at (nat_cmp start)) gs) start

-- where a run ends if it begins at an offset, or else that offset
abbrev pub end_from : ℕ → Option Span → ℕ
end_from end None = end
end_from end (Some g) = cond (g.1 == end) g.0 end

-- the runs that end before an offset
abbrev pub ended_before : ℕ → List Span → List Span
ended_before start gs = filter (λ g. ltb g.0 start) gs

-- the runs that begin behind an offset
abbrev pub begun_behind : ℕ → List Span → List Span
begun_behind end gs = filter (λ g. ltb end g.1) gs

-- the set with the offsets from `start` up to `end`, of which it has none: the runs before these,
-- the run that they make with those that touch them, and the runs behind
abbrev pub with_span : ℕ → ℕ → List Span → List Span
with_span start end gs = ended_before start gs ++ ((end_from end (next_span end gs), first_from start gs) ∷ begun_behind end gs)

-- the set with `len` offsets from `at` on
abbrev pub with_run : ℕ → ℕ → List Span → List Span
with_run at len gs = cond (ltb 0 len) (with_span at (at + len) gs) gs

-- whether an offset is in the first run that ends behind it
abbrev pub is_spanned : ℕ → Option Span → Bool
is_spanned at None = false
is_spanned at (Some g) = not (ltb at g.1)

-- how many of `len` offsets are in that run
abbrev pub spanned_at : ℕ → ℕ → Option Span → ℕ
spanned_at at len None = 0
spanned_at at len (Some g) = min (g.0 - at) len

-- how many of `len` offsets come before that run
abbrev pub free_at : ℕ → ℕ → Option Span → ℕ
free_at at len None = len
free_at at len (Some g) = min (g.1 - at) len
