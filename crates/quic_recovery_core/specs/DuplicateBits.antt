-- How the set of numbers that came stands in bits.
use Rattle.std.specs.Prelude.{ℕ, zero, suc, ◌-◌, Bool, ◌==◌, List, [], ◌∷◌, filter}
use Rattle.std.specs.Int.{bit_at}
use Rattle.quic_recovery_core.specs.Duplicates.{Seen}

-- how many numbers below the greatest have a bit
abbrev pub window_bits : ℕ
window_bits = 256

-- so many numbers below one, descending; fewer where they come to 0
abbrev pub numbers_below : ℕ → ℕ → List ℕ
numbers_below zero count = []
numbers_below (suc n) zero = []
numbers_below (suc n) (suc count) = n ∷ numbers_below n count

-- whether the bit of a number below the greatest is set: the nearest has the lowest
abbrev pub is_marked : ℕ → ℕ → ℕ → Bool
is_marked greatest window k = bit_at window (greatest - 1 - k) == 1

-- the greatest, and the numbers below it whose bits are set
abbrev pub seen : ℕ → ℕ → Seen
seen zero window = []
seen (suc greatest) window = greatest ∷ filter (is_marked greatest window) (numbers_below greatest window_bits)
