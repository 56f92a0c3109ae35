-- Bytes that lie in buffers, taken from the front piece by piece.
use Rattle.std.specs.Prelude.{◌≡◌, ℕ, ◌-◌, ◌≤◌, ◌<◌, cond, leb, List, [], ◌∷◌, length, take, drop}
use Rattle.std.specs.List.{sum_by}

-- a slice as buffers: one, or none where it has no byte
abbrev pub one_buffer : List ℕ → List (List ℕ)
one_buffer [] = []
one_buffer (b ∷ bytes) = (b ∷ bytes) ∷ []

-- how many bytes buffers have in all
abbrev pub bytes_of : List (List ℕ) → ℕ
bytes_of cs = sum_by length cs

-- the first bytes of buffers, so many in all
abbrev pub cut_to : ℕ → List (List ℕ) → List (List ℕ)
cut_to n [] = []
cut_to n (c ∷ cs) = take n c ∷ cut_to (n - length c) cs

-- buffers of which so many bytes of the first are taken
abbrev pub without_front : ℕ → List (List ℕ) → List (List ℕ)
without_front taken [] = []
without_front taken (c ∷ cs) = drop taken c ∷ cs

-- no more bytes of the first buffer are taken than it has, and none where there is no buffer
abbrev pub FitsFront : ℕ → List (List ℕ) → Type 0
FitsFront taken [] = taken ≡ 0
FitsFront taken (c ∷ cs) = taken ≤ length c

-- the next piece: of the first buffer that has bytes, at most `limit` of them
abbrev pub next_piece : List (List ℕ) → ℕ → List ℕ
next_piece [] limit = []
next_piece ([] ∷ cs) limit = next_piece cs limit
next_piece ((b ∷ bytes) ∷ cs) limit = take limit (b ∷ bytes)

-- the buffers behind it: those that were passed are used up, and that of the piece, if it is taken
-- whole
abbrev pub left_behind : List (List ℕ) → ℕ → List (List ℕ)
left_behind [] limit = []
left_behind ([] ∷ cs) limit = left_behind cs limit
left_behind ((b ∷ bytes) ∷ cs) limit = cond (leb (length (b ∷ bytes)) limit) cs (drop limit (b ∷ bytes) ∷ cs)

-- the first buffer has bytes, if there is one
abbrev pub HasFront : List (List ℕ) → Type 0
HasFront [] = Unit {0}
HasFront (c ∷ cs) = 0 < length c

-- the buffers are the same but for some without bytes at the front
pub record IsBehind (old new : List (List ℕ)) : Type 0 where
  pub piece : (limit : ℕ) → next_piece new limit ≡ next_piece old limit
  pub rest : (limit : ℕ) → left_behind new limit ≡ left_behind old limit
