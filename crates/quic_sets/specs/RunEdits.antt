-- How a call changes a list of runs: the runs at some places give way to others.
use Rattle.std.specs.Prelude.{◌≡◌, ℕ, ◌+◌, ◌≤◌, ◌<◌, List, ◌∷◌, ◌++◌, length, take, drop, slice_index_or}
use Rattle.quic_sets.specs.Runs.{Run, AreRuns, Adds, Drops, IsApart, IsInside}
use Rattle.quic_sets.specs.declared.range_set.runs.Edit.{Edit}
use Rattle.quic_sets.specs.declared.range_set.runs.Edit.TheVariants as edits

-- the runs at these places are those that have a number from the first one to the last
pub record AreMet (rs : List Run) (first last from to : ℕ) : Type 0 where
  pub ascend : from ≤ to
  pub within : to ≤ length rs
  pub before : (k : ℕ) (d : Run) → k < from → (slice_index_or rs k d).end ≤ first
  pub meet : (k : ℕ) (d : Run) → from ≤ k → k < to → (first < (slice_index_or rs k d).end) × ((slice_index_or rs k d).start ≤ last)
  pub behind : (k : ℕ) (d : Run) → to ≤ k → k < length rs → last < (slice_index_or rs k d).start

-- the list after the edit
abbrev pub edited : Edit → List Run → List Run
edited (edits.Insert place run) rs = take place rs ++ (run ∷ drop place rs)
edited (edits.Split places left right) rs = take places.start rs ++ (left ∷ right ∷ drop places.end rs)
edited (edits.Merge places run) rs = take places.start rs ++ (run ∷ drop places.end rs)
edited (edits.Trim places left right) rs = take places.start rs ++ (left ∷ right ∷ drop places.end rs)
edited (edits.Remove places) rs = take places.start rs ++ drop places.end rs

-- a list of that many runs has the places, and as many as are written
abbrev pub HasPlaces : Edit → ℕ → Type 0
HasPlaces (edits.Insert place run) n = place ≤ n
HasPlaces (edits.Split places left right) n = (places.start + 1 ≡ places.end) × (places.end ≤ n)
HasPlaces (edits.Merge places run) n = (places.start < places.end) × (places.end ≤ n)
HasPlaces (edits.Trim places left right) n = (places.start + 2 ≤ places.end) × (places.end ≤ n)
HasPlaces (edits.Remove places) n = (places.start ≤ places.end) × (places.end ≤ n)

-- the edit leaves one run more
abbrev pub Grows : Edit → Type 0
Grows (edits.Insert place run) = Unit {0}
Grows (edits.Split places left right) = Unit {0}
Grows (edits.Merge places run) = ⊥
Grows (edits.Trim places left right) = ⊥
Grows (edits.Remove places) = ⊥

-- the edit puts the numbers from a up to b into the set, of which some weren't there
pub record IsInsertion (rs : List Run) (a b : ℕ) (e : Edit) : Type 0 where
  pub places : HasPlaces e (length rs)
  pub short : length (edited e rs) ≤ length rs + 1
  pub adds : Adds rs (edited e rs) a b
  pub runs : AreRuns (edited e rs)
  pub changes : edited e rs ≡ rs → ⊥
  pub apart : Grows e → IsApart rs a b

-- the edit takes the numbers from a up to b out of the set, of which some were there
pub record IsRemoval (rs : List Run) (a b : ℕ) (e : Edit) : Type 0 where
  pub places : HasPlaces e (length rs)
  pub short : length (edited e rs) ≤ length rs + 1
  pub drops : Drops rs (edited e rs) a b
  pub runs : AreRuns (edited e rs)
  pub changes : edited e rs ≡ rs → ⊥
  pub inside : Grows e → IsInside rs a b
