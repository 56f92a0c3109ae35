-- Packet numbers that are given, at worked values.
use Rattle.std.specs.Prelude.{ℕ, zero, suc, ◌+◌, List, [], ◌∷◌}
use Rattle.quic_spaces.specs.Filter.{Filter, allocated, after_allocated}

-- the numbers that are given one after another, and the filter behind them
pub record Given : Type 0 where
  pub numbers : List ℕ
  pub left : Filter

-- one number is given before these
abbrev pub given_behind : ℕ → Given → Given
given_behind number others = record { numbers = number ∷ others.numbers; left = others.left }

-- so many, where this one is next, and each word of the random source is the same
unfoldable pub given : ℕ → ℕ → ℕ → Filter → Given
given zero next word f = record { numbers = []; left = f }
given (suc n) next word f = given_behind (allocated f next) (given n (allocated f next + 1) word (after_allocated f next word))
