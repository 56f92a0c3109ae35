-- Words of the steps by which the assembler puts in and takes out parts.
use Rattle.std.specs.Prelude.{◌≡◌, ℕ, ◌+◌, ◌-◌, ◌<◌, ◌≤◌, ◌==◌, Bool, true, false, cond, ltb, min, not, ◌||◌, List, [], ◌∷◌, take, Option, Some, None}
use Rattle.std.specs.Option.{is_some}
use Rattle.std.specs.Ordering.{nat_cmp}
use Rattle.std.specs.BTreeMap.{is_at}
use Rattle.std.specs.Map.{lookup}
use Rattle.quic_sets.specs.Runs.{Run, Has}
use Rattle.quic_sets.specs.Spans.{Span, in_spans}
use Rattle.quic_sets.specs.Parts.{Part, start, after}
use Rattle.quic_assembler.specs.Arrived.{byte_at, waits}

-- where a part begins and ends
abbrev pub span_of : Part → ℕ × ℕ
span_of p = (start p, p.0)

-- whether the offset is in the first part that ends behind it
abbrev pub is_held : ℕ → Option Part → Bool
is_held at None = false
is_held at (Some p) = not (ltb at (start p))

-- how many of `len` bytes are in that part
abbrev pub held_at : ℕ → ℕ → Option Part → ℕ
held_at at len None = 0
held_at at len (Some p) = min (p.0 - at) len

-- how many of `len` bytes fit before that part
abbrev pub gap_at : ℕ → ℕ → Option Part → ℕ
gap_at at len None = len
gap_at at len (Some p) = min (start p - at) len

-- whether that part begins at `end`
abbrev pub begins_at : ℕ → Option Part → Bool
begins_at end None = false
begins_at end (Some p) = start p == end

-- whether offsets up to `end` lie before that part
abbrev pub Fits : ℕ → Option Part → Type 0
Fits end None = Unit {0}
Fits end (Some p) = end ≤ start p

-- how many parts touch the offsets from `at` to `end`: one may end at `at`, and one begin at `end`
abbrev pub touching : List Part → ℕ → ℕ → ℕ
touching ps at end = cond (is_some (lookup (is_at (nat_cmp at)) ps)) 1 0 + cond (begins_at end (after at ps)) 1 0

-- the bytes of the first part
abbrev pub first_bytes : List Part → Option (List ℕ)
first_bytes [] = None
first_bytes (p ∷ ps) = Some p.1

-- the parts behind the first
abbrev pub rest_of : List Part → List Part
rest_of [] = []
rest_of (p ∷ ps) = ps

-- at most `most` bytes of the first part
abbrev pub front_of : List Part → ℕ → Option (List ℕ)
front_of [] most = None
front_of (p ∷ ps) most = Some (take most p.1)

-- the part that begins at an offset, among the parts behind it
abbrev pub touching_at : ℕ → Option Part → Option Part
touching_at at None = None
touching_at at (Some p) = cond (start p == at) (Some p) None

-- the parts that end behind an offset
abbrev pub from_after : ℕ → List Part → List Part
from_after at [] = []
from_after at (p ∷ ps) = cond (ltb at p.0) (p ∷ ps) (from_after at ps)

-- at one of `len` offsets from `at` on no byte waits
pub record HasGap (ps : List Part) (at len : ℕ) : Type 0 where
  pub offset : ℕ
  pub above : at ≤ offset
  pub below : offset < at + len
  pub dry : byte_at ps offset ≡ None

-- one of `len` offsets from `at` on is not in some runs, and no byte waits at it
pub record HasFree (given : List Span) (ps : List Part) (at len : ℕ) : Type 0 where
  pub offset : ℕ
  pub above : at ≤ offset
  pub below : offset < at + len
  pub outside : in_spans given offset ≡ false
  pub dry : byte_at ps offset ≡ None

-- of a set's offsets each that is one of `len` from `at` on is in some runs, or a byte waits at it
abbrev pub AreHere : List Span → List Part → List Run → ℕ → ℕ → Type 0
AreHere given ps set at len = (o : ℕ) → at ≤ o → o < at + len → Has set o → (in_spans given o || waits ps o) ≡ true
