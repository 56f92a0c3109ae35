-- What of a range another set lacks.
use Rattle.std.specs.Prelude.{ℕ, ◌≤◌, ◌<◌, ◌⊎◌, ◌↔◌, List}
use Rattle.quic_sets.specs.Runs.{Run, Has}

-- the number is one from a up to b, and lacks in the other set
abbrev pub IsLacking : List Run → ℕ → ℕ → ℕ → Type 0
IsLacking other a b k = (a ≤ k) × (k < b) × (Has other k → ⊥)

-- the new set has the numbers of the old one and those from a up to b that the other set lacks
abbrev pub AddsLacking : List Run → List Run → List Run → ℕ → ℕ → Type 0
AddsLacking old other new a b = (k : ℕ) → Has new k ↔ (Has old k ⊎ IsLacking other a b k)

-- some number from a up to b lacks in the old set and in the other
pub record HasLacking (old other : List Run) (a b : ℕ) : Type 0 where
  pub number : ℕ
  pub lacking : IsLacking other a b number
  pub new : Has old number → ⊥

-- some number from a up to b lacks in the old set, or is in the other
pub record HasMoving (old other : List Run) (a b : ℕ) : Type 0 where
  pub number : ℕ
  pub above : a ≤ number
  pub below : number < b
  pub moves : (Has old number → ⊥) ⊎ Has other number
