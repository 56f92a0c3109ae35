-- The words of sets computed at worked values.
use Rattle.std.proofs.Common.{◌≡◌, ℕ, List, [], ◌∷◌, refl}
use Rattle.quic_sets.specs.Runs.{Run}
use Rattle.quic_sets.specs.Elements.{elements}
use Rattle.quic_sets.specs.Pieces.{pieces, joining, with_range, joined}

abbrev run : ℕ → ℕ → Run
run a b = record { start = a; end = b }

abbrev near : List Run
near = run 1 2 ∷ run 3 5 ∷ []

abbrev far : List Run
far = run 10 12 ∷ run 20 22 ∷ run 30 32 ∷ []

near_pieces : pieces 0 4 near ≡ run 1 2 ∷ run 3 4 ∷ []
unfolding pieces
near_pieces = refl

near_joined : joined 0 4 near ≡ run 0 5 ∷ []
unfolding joined with_range joining
near_joined = refl

far_pieces : pieces 11 31 far ≡ run 11 12 ∷ run 20 22 ∷ run 30 31 ∷ []
unfolding pieces
far_pieces = refl

far_joined : joined 11 31 far ≡ run 10 32 ∷ []
unfolding joined with_range joining
far_joined = refl

-- a run that only touches the range has no piece, and is joined
touched_pieces : pieces 2 3 near ≡ []
unfolding pieces
touched_pieces = refl

touched_joined : joined 2 3 near ≡ run 1 5 ∷ []
unfolding joined with_range joining
touched_joined = refl

-- an empty range has no piece and joins nothing
empty_pieces : pieces 11 11 far ≡ []
unfolding pieces
empty_pieces = refl

empty_joined : joined 11 11 far ≡ far
unfolding joined with_range joining
empty_joined = refl

near_elements : elements near ≡ 1 ∷ 3 ∷ 4 ∷ []
near_elements = refl
