-- At most four sizes, the greatest first, in four places of which the last ones may be free.
use Rattle.std.specs.Prelude.{◌≡◌, ℕ, ◌≤◌, List, [], ◌∷◌, ⊤, Option, Some, None, slice_get}
use Rattle.std.proofs.Common.{refl}
use Rattle.quic_congestion.specs.declared.mtud.suspects.SuspiciousBursts.TheInside.{Inside}

-- the places
abbrev pub places : Inside → List (Option ℕ)
places s = s.first ∷ s.second ∷ s.third ∷ s.fourth ∷ []

-- the sizes that stand in places
abbrev pub sizes_in : List (Option ℕ) → List ℕ
sizes_in [] = []
sizes_in (None ∷ ps) = sizes_in ps
sizes_in (Some size ∷ ps) = size ∷ sizes_in ps

-- a place is free, or has no more than the one before it
abbrev pub IsAtMost : Option ℕ → Option ℕ → Type 0
IsAtMost None before = ⊤
IsAtMost (Some size) None = ⊥
IsAtMost (Some size) (Some before) = size ≤ before

-- the sizes descend, with the empty places behind them
abbrev pub Descend : List (Option ℕ) → Type 0
Descend [] = ⊤
Descend (p ∷ []) = ⊤
Descend (p ∷ q ∷ ps) = IsAtMost q p × Descend (q ∷ ps)

-- the sizes that are kept
abbrev pub sizes : Inside → List ℕ
sizes s = sizes_in (places s)

-- the places of sizes descend
abbrev pub IsDescending : Inside → Type 0
IsDescending s = Descend (places s)

-- the places of sizes in descending order
abbrev pub places_of : List ℕ → Inside
places_of xs = record { first = slice_get xs 0; second = slice_get xs 1; third = slice_get xs 2; fourth = slice_get xs 3 }

-- the places are told by the sizes
told : (a b c d : Option ℕ) → IsAtMost b a → IsAtMost c b → IsAtMost d c
    → places_of (sizes_in (a ∷ b ∷ c ∷ d ∷ [])) ≡ record { first = a; second = b; third = c; fourth = d }
told None None None None h k l = refl
told (Some a) None None None h k l = refl
told (Some a) (Some b) None None h k l = refl
told (Some a) (Some b) (Some c) None h k l = refl
told (Some a) (Some b) (Some c) (Some d) h k l = refl
told None (Some b) c d h k l = absurd h
told a None (Some c) d h k l = absurd k
told a b None (Some d) h k l = absurd l

pub places_of_sizes : (s : Inside) → IsDescending s → places_of (sizes s) ≡ s
places_of_sizes s h = told s.first s.second s.third s.fourth h.0 h.1.0 h.1.1.0
