-- What edits do to places that may be free, each with no more than the one before it.
use Rattle.std.specs.Prelude.{ℕ, ltb, leb, cond, List, [], ◌∷◌, Option, Some, None}

-- what a place has once a size came to it
abbrev pub greater : Option ℕ → Option ℕ → Option ℕ
greater None size = size
greater (Some kept) None = Some kept
greater (Some kept) (Some size) = cond (leb kept size) (Some size) (Some kept)

-- and what goes on to the next place
abbrev pub lesser : Option ℕ → Option ℕ → Option ℕ
lesser None size = None
lesser (Some kept) None = None
lesser (Some kept) (Some size) = cond (leb kept size) (Some kept) (Some size)

-- a size came to the first place
abbrev pub passed_on : Option ℕ → List (Option ℕ) → List (Option ℕ)
passed_on size [] = []
passed_on size (p ∷ ps) = greater p size ∷ passed_on (lesser p size) ps

-- a place gives up what isn't above a size
abbrev pub above : ℕ → Option ℕ → Option ℕ
above size None = None
above size (Some kept) = cond (ltb size kept) (Some kept) None

-- each place, if its size is above this one
abbrev pub all_above : ℕ → List (Option ℕ) → List (Option ℕ)
all_above size [] = []
all_above size (p ∷ ps) = above size p ∷ all_above size ps
