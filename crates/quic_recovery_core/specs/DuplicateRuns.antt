-- Packet numbers that come one after another.
use Rattle.std.specs.Prelude.{◌≡◌, ℕ, ◌+◌, ◌≤◌, ◌<◌, ◌⊎◌, List, [], ◌∷◌}
use Rattle.quic_recovery_core.specs.Duplicates.{duplicate_span, Seen, after_insert}

-- the numbers that are told apart after these came, the latest first
abbrev pub seen_after : List ℕ → Seen
seen_after [] = []
seen_after (n ∷ ns) = after_insert (seen_after ns) n

-- the number is one of them
abbrev pub Came : List ℕ → ℕ → Type 0
Came [] k = ⊥
Came (n ∷ ns) k = (k ≡ n) ⊎ Came ns k

-- the number lies the span or more below one of them, and so below the greatest
abbrev pub IsFarBelow : List ℕ → ℕ → Type 0
IsFarBelow [] k = ⊥
IsFarBelow (n ∷ ns) k = (k + duplicate_span ≤ n) ⊎ IsFarBelow ns k

-- the number did not come, one above it did, and it does not lie the span or more below any
abbrev pub Lacks : List ℕ → ℕ → Type 0
Lacks ns k = (Came ns k → ⊥) × (IsFarBelow ns k → ⊥) × ((n : ℕ) × Came ns n × (k < n))

-- the number lacks between two others, and is the least such
abbrev pub IsLeastLacking : List ℕ → ℕ → ℕ → ℕ → Type 0
IsLeastLacking ns low high k = (low < k) × (k < high) × Lacks ns k × ((j : ℕ) → low < j → j < k → Lacks ns j → ⊥)
