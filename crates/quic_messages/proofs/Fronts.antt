-- The first of a list and the others.
use Rattle.std.proofs.Common.{List, [], ◌∷◌}

-- the first, or else this
abbrev pub head_of : {X : Type 0} → X → List X → X
head_of d [] = d
head_of d (x ∷ xs) = x

-- the others
abbrev pub tail_of : {X : Type 0} → List X → List X
tail_of [] = []
tail_of (x ∷ xs) = xs
