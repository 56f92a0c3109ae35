-- A finite set of numbers as its maximal runs, in ascending order.
use Rattle.std.specs.Prelude.{◌≡◌, ℕ, ◌+◌, ◌≤◌, ◌<◌, Bool, true, false, ◌⊎◌, ◌↔◌, List, [], ◌∷◌}
use Rattle.std.specs.declared.ops.Range.{Range}

-- a run: the numbers from its start up to its end, the end itself left out
abbrev pub Run : Type 0
Run = Range ℕ

-- the number is in the run
abbrev pub In : ℕ → Run → Type 0
In n r = (r.start ≤ n) × (n < r.end)

-- the number is in the set
abbrev pub Has : List Run → ℕ → Type 0
Has [] n = ⊥
Has (r ∷ rs) n = In n r ⊎ Has rs n

-- the runs begin at the number or above it, are not empty, ascend, and do not touch: between two of
-- them a number lacks
abbrev pub AreRunsFrom : ℕ → List Run → Type 0
AreRunsFrom n [] = Unit {0}
AreRunsFrom n (r ∷ rs) = (n ≤ r.start) × (r.start < r.end) × AreRunsFrom (r.end + 1) rs

-- the list is that of the maximal runs of a set
abbrev pub AreRuns : List Run → Type 0
AreRuns rs = AreRunsFrom 0 rs

-- the new set has the numbers of the old one and those from a up to b
abbrev pub Adds : List Run → List Run → ℕ → ℕ → Type 0
Adds old new a b = (k : ℕ) → Has new k ↔ (Has old k ⊎ ((a ≤ k) × (k < b)))

-- the new set has the numbers of the old one that aren't from a up to b
abbrev pub Drops : List Run → List Run → ℕ → ℕ → Type 0
Drops old new a b = (k : ℕ) → Has new k ↔ (Has old k × ((a ≤ k) × (k < b) → ⊥))

-- the new set has the numbers of both
abbrev pub IsUnion : List Run → List Run → List Run → Type 0
IsUnion old other new = (k : ℕ) → Has new k ↔ (Has old k ⊎ Has other k)

-- the new set has the numbers of the old one that the other lacks
abbrev pub IsDifference : List Run → List Run → List Run → Type 0
IsDifference old other new = (k : ℕ) → Has new k ↔ (Has old k × (Has other k → ⊥))

-- two sets have the same numbers
abbrev pub AreSame : List Run → List Run → Type 0
AreSame old new = (k : ℕ) → Has old k ↔ Has new k

-- whether the set changed (a set has one list of maximal runs)
abbrev pub TellsChange : Bool → List Run → List Run → Type 0
TellsChange true old new = new ≡ old → ⊥
TellsChange false old new = new ≡ old

-- a number below each other of the set
abbrev pub IsLeast : List Run → ℕ → Type 0
IsLeast rs n = Has rs n × ((k : ℕ) → Has rs k → n ≤ k)

-- a number above each other of the set
abbrev pub IsGreatest : List Run → ℕ → Type 0
IsGreatest rs n = Has rs n × ((k : ℕ) → Has rs k → k ≤ n)

-- no number from a up to b is in the set, nor one that stands beside them: they'd be a run of their
-- own
abbrev pub IsApart : List Run → ℕ → ℕ → Type 0
IsApart rs a b = (a < b) × ((k : ℕ) → Has rs k → (k + 1 < a) ⊎ (b < k))

-- the numbers from a up to b are in the set, and those beside them, below and above: without them a
-- run would be two
abbrev pub IsInside : List Run → ℕ → ℕ → Type 0
IsInside rs a b = (0 < a) × (a < b) × ((k : ℕ) → a ≤ k + 1 → k ≤ b → Has rs k)

-- the numbers before and behind the run lack in the set
abbrev pub IsMaximal : List Run → Run → Type 0
IsMaximal rs r = (Has rs r.end → ⊥) × ((k : ℕ) → k + 1 ≡ r.start → Has rs k → ⊥)
