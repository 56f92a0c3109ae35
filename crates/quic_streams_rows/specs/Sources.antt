-- Pieces that are taken from buffers one behind another.
use Rattle.std.specs.Prelude.{ℕ, zero, suc, ◌-◌, List, [], ◌∷◌, length}
use Rattle.quic_send_buffer.specs.Source.{next_piece, left_behind}

-- what so many pieces of at most two bytes are, and how many buffers each uses up
abbrev pub pops : ℕ → List (List ℕ) → List (List ℕ × ℕ)
pops zero buffers = []
pops (suc n) buffers = let left = left_behind buffers 2 in (next_piece buffers 2, length buffers - length left) ∷ pops n left
