-- Numbers to acknowledge that come and go, one after another.
use Rattle.std.specs.Prelude.{◌≡◌, ℕ, ◌≤◌, ◌<◌, ◌⊎◌, List, [], ◌∷◌, length, Option, None}
use Rattle.quic_sets.specs.Runs.{Run, In}
use Rattle.quic_recovery_core.specs.PendingAcks.{most_ack_runs, with_one, at_most, above, newer}

-- a number came, or the peer knows of the numbers up to one
pub data Change : Type 0 where
  came : ℕ → Change
  known : ℕ → Change

-- the runs after such changes, the latest first
abbrev pub runs_after : List Change → List Run
runs_after [] = []
runs_after (came n ∷ changes) = at_most (with_one (runs_after changes) n)
runs_after (known n ∷ changes) = above (runs_after changes) n

-- the number is in the run of the least number
abbrev pub IsInLeast : List Run → ℕ → Type 0
IsInLeast [] k = ⊥
IsInLeast (r ∷ rs) k = In k r

-- the number goes, since there would be a run too many
abbrev pub IsDropped : List Run → ℕ → Type 0
IsDropped rs k = (most_ack_runs < length rs) × IsInLeast rs k

-- the number was put in, and neither taken out since nor dropped with the run of the least number
abbrev pub Waits : List Change → ℕ → Type 0
Waits [] k = ⊥
Waits (came n ∷ changes) k = (Waits changes k ⊎ (k ≡ n)) × (IsDropped (with_one (runs_after changes) n) k → ⊥)
Waits (known n ∷ changes) k = Waits changes k × (n < k)

-- the greatest number and its moment after numbers came at moments, the latest first
abbrev pub newest_after : List (ℕ × ℕ) → Option (ℕ × ℕ)
newest_after [] = None
newest_after (arrival ∷ arrivals) = newer (newest_after arrivals) arrival.0 arrival.1

-- all numbers that came are below one
abbrev pub AreBelow : List (ℕ × ℕ) → ℕ → Type 0
AreBelow [] n = Unit {0}
AreBelow (arrival ∷ arrivals) n = (arrival.0 < n) × AreBelow arrivals n

-- the number came at this moment, none that came is greater, and it did not come before
abbrev pub IsNewest : List (ℕ × ℕ) → ℕ × ℕ → Type 0
IsNewest [] held = ⊥
IsNewest (arrival ∷ arrivals) held = ((held ≡ arrival) × AreBelow arrivals arrival.0) ⊎ (IsNewest arrivals held × (arrival.0 ≤ held.0))
