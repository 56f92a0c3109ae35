-- A set of offsets as runs in ascending order: those that may touch inside a call, and the maximal
-- ones between calls.
use Rattle.std.specs.Prelude.{◌≡◌, ℕ, true, false, leb, Bool, ◌&&◌, ◌||◌, ◌-◌, ◌^◌, ◌<◌, ◌≤◌, ◌==◌, ◌⊎◌, cond, List, [], ◌∷◌, Option, Some, None}
use Rattle.std.specs.Ordering.{nat_cmp}
use Rattle.std.specs.Map.{lookup}
use Rattle.std.specs.BTreeMap.{insert_entry, is_at}
use Rattle.quic_sets.specs.Runs.{Run}
use Rattle.quic_sets.specs.Spans.{Span, in_span, in_spans}

-- runs from `low` up to `high`, none empty, one behind the other
abbrev pub LieWithin : ℕ → List Span → ℕ → Type 0
LieWithin low [] high = low ≤ high
LieWithin low (g ∷ gs) high = (low ≤ g.1) × (g.1 < g.0) × LieWithin g.0 gs high

-- the greatest offset (RFC 9000, 19.8)
abbrev pub greatest : ℕ
greatest = 2 ^ 62 - 1

-- such runs of a stream
abbrev pub AreLoose : List Span → Type 0
AreLoose gs = LieWithin 0 gs greatest

-- no run has offsets on both sides of an offset
abbrev pub IsCut : ℕ → Option Span → Type 0
IsCut at None = Unit {0}
IsCut at (Some g) = at ≤ g.1

-- a run from one offset up to another fits: no offset of it is in the set, which has no run that
-- ends there
pub record FitsRun (at end : ℕ) (gs : List Span) : Type 0 where
  pub loose : AreLoose (insert_entry nat_cmp gs end at)
  pub has : (o : ℕ) → in_spans (insert_entry nat_cmp gs end at) o ≡ (in_spans gs o || in_span o (end, at))
  pub absent : lookup (is_at (nat_cmp end)) gs ≡ None

-- where the run ends, if it ends up to an offset
abbrev pub inside_at : ℕ → Option Span → Option ℕ
inside_at end None = None
inside_at end (Some g) = cond (leb g.0 end) (Some g.0) None

-- the last of some runs, or else another one
abbrev pub last_span : Span → List Span → Span
last_span l [] = l
last_span l (g ∷ gs) = last_span g gs

-- whether the first of some runs begins at an offset
abbrev pub begins_first : ℕ → List Span → Bool
begins_first o [] = false
begins_first o (g ∷ gs) = g.1 == o

-- whether a run ends at an offset, and the next begins there
abbrev pub touches : ℕ → List Span → Bool
touches o [] = false
touches o (g ∷ gs) = (g.0 == o && begins_first o gs) || touches o gs

-- such runs, of which no two touch
pub record AreMaximal (gs : List Span) : Type 0 where
  pub loose : AreLoose gs
  pub apart : (o : ℕ) → touches o gs ≡ false

-- a run of the map as a run
abbrev pub as_run : Span → Run
as_run g = record { start = g.1; end = g.0 }

-- both sets lack some offset of a range
pub record BothLack (gs others : List Span) (start end : ℕ) : Type 0 where
  pub offset : ℕ
  pub above : start ≤ offset
  pub below : offset < end
  pub free : in_spans gs offset ≡ false
  pub other : in_spans others offset ≡ false

-- the runs touch only where they did, or from one offset up to another
abbrev pub TouchWithin : List Span → List Span → ℕ → ℕ → Type 0
TouchWithin old new a b = (o : ℕ) → touches o new ≡ true → (touches o old ≡ true) ⊎ ((a ≤ o) × (o ≤ b))
