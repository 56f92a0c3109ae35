-- A queue of stretches of which the first may stand apart from the others, as one piece.
use Rattle.std.specs.Prelude.{List, [], ◌∷◌, Option, Some, None}
use Rattle.quic_sets.specs.Parts.{Part}

-- all of them
abbrev pub row : Option Part → List (List Part) → List (List Part)
row None others = others
row (Some p) others = (p ∷ []) ∷ others

module _ {A : Type 0} where
  -- the first
  abbrev pub first_of : List A → Option A
  first_of [] = None
  first_of (x ∷ xs) = Some x

  -- those behind it
  abbrev pub others_of : List A → List A
  others_of [] = []
  others_of (x ∷ xs) = xs
