-- What is kept of bursts, over whole histories.
use Rattle.std.specs.Prelude.{ℕ, ◌≤◌, ⊤, List, [], ◌∷◌}

-- sizes of which none is above a given one
abbrev pub AreAtMost : ℕ → List ℕ → Type 0
AreAtMost most [] = ⊤
AreAtMost most (x ∷ xs) = (x ≤ most) × AreAtMost most xs

-- sizes of which none is above one before it
abbrev pub AreDescending : List ℕ → Type 0
AreDescending [] = ⊤
AreDescending (x ∷ xs) = AreAtMost x xs × AreDescending xs
