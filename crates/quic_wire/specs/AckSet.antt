-- Sets of numbers as ACK frames (RFC 9000, section 19.3.1).
use Rattle.std.specs.Prelude.{ℕ, ◌-◌, ◌<◌, ◌^◌, List, [], ◌∷◌, map, reverse, Option}
use Rattle.quic_sets.specs.Runs.{Run, Has}
use Rattle.quic_wire.specs.Value.{AckValue}

-- The least and the greatest number of a run.
abbrev pub range_of_run : Run → ℕ × ℕ
range_of_run r = (r.start, r.end - 1)

-- The ranges of a set: one for each run, from the highest down.
abbrev pub ranges_of_set : List Run → List (ℕ × ℕ)
ranges_of_set runs = reverse (map range_of_run runs)

-- The greatest number of ranges that go down, 0 where there is none.
abbrev pub greatest : List (ℕ × ℕ) → ℕ
greatest [] = 0
greatest (r ∷ rs) = r.1

-- The ACK frame of a set, with this delay and these counts.
abbrev pub ack_of_set : ℕ → List Run → Option (ℕ × ℕ × ℕ) → AckValue
ack_of_set delay runs ecn = record { largest = greatest (ranges_of_set runs); delay = delay; ranges = ranges_of_set runs; ecn = ecn }

-- Each number of the set is below 2^62, as packet numbers are (section 12.3).
abbrev pub IsSmall : List Run → Type 0
IsSmall runs = (n : ℕ) → Has runs n → n < 2 ^ 62
