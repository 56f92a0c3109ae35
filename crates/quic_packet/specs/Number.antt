-- Packet numbers, cut to their last bytes and expanded again (RFC 9000, section 17.1, appendices
-- A.2 and A.3).
use Rattle.std.specs.Prelude.{◌≡◌, ℕ, ◌+◌, ◌-◌, ◌*◌, ◌/◌, ◌%◌, ◌^◌, ◌<◌, ◌≤◌, List, ◌++◌, length, drop, replicate, nat_lt, if◌then◌else◌, ◌⊎◌}
use Rattle.std.specs.Int.{w32, from_be_bytes, to_be_bytes}

-- a packet number as it is written: how many bytes, and the value of these last bytes (RFC 9000,
-- 17.1)
pub record Truncated : Type 0 where
  pub width : ℕ
  pub residue : ℕ

-- how many numbers so many bytes tell apart (RFC 9000, A.3)
abbrev pub window : ℕ → ℕ
window width = 256 ^ width

-- the fewest bytes, at most 4, that tell apart more than twice as many numbers as lie between (RFC
-- 9000, 17.1)
abbrev pub width_for : ℕ → ℕ
width_for between = if nat_lt (2 * between) 256 then 1 else (if nat_lt (2 * between) 65536 then 2 else (if nat_lt (2 * between) 16777216 then 3 else 4))

-- a width of 1 to 4 bytes that is enough for so many numbers in between, where no smaller one is
pub record IsFewest (between width : ℕ) : Type 0 where
  pub some : 1 ≤ width
  pub four : width ≤ 4
  pub enough : 2 * between < 256 ^ width
  pub fewest : (k : ℕ) → 1 ≤ k → k < width → 256 ^ k ≤ 2 * between

-- a number as it is written where so many are acknowledged (RFC 9000, A.2)
abbrev pub truncated : ℕ → ℕ → Truncated
truncated number acked = record { width = width_for (number - acked); residue = number % window (width_for (number - acked)) }

-- the bytes that are written: the last of the residue's four, big-endian
abbrev pub number_bytes : Truncated → List ℕ
number_bytes t = drop (4 - t.width) (to_be_bytes w32 t.residue)

-- the residue that at most four bytes say
abbrev pub residue_of : List ℕ → ℕ
residue_of bytes = from_be_bytes w32 (replicate (4 - length bytes) 0 ++ bytes)

-- the greatest number with this residue that is at most half a window above the expected one, or
-- else the residue itself (RFC 9000, A.3)
abbrev pub expanded : Truncated → ℕ → ℕ
expanded t expected = t.residue + (expected + window t.width / 2 - t.residue) / window t.width * window t.width

-- the number with this residue in the window around the expected one, or the residue where that
-- number would be negative (RFC 9000, 17.1)
pub record IsExpansion (t : Truncated) (expected value : ℕ) : Type 0 where
  pub residue : value % window t.width ≡ t.residue
  pub around : ((expected < value + window t.width / 2) × (value ≤ expected + window t.width / 2)) ⊎ ((expected + window t.width / 2 < t.residue) × (value ≡ t.residue))

-- a number is cut to the fewest bytes that are enough for what lies between it and the greatest
-- acknowledged
abbrev pub TakesFewest : Type 0
TakesFewest = (number acked : ℕ) → number - acked < 2 ^ 31 → IsFewest (number - acked) (truncated number acked).width

-- the newest number expands to itself, wherever the expected one lies from the greatest
-- acknowledged up to the one behind it
abbrev pub NewestOpens : Type 0
NewestOpens = (number acked expected : ℕ) → number - acked < 2 ^ 31 → acked ≤ expected → expected ≤ number + 1 → expanded (truncated number acked) expected ≡ number

-- a number expands to itself, wherever the expected one lies from the greatest acknowledged up to
-- less than half a window above the number
abbrev pub LateOpens : Type 0
LateOpens = (number acked expected : ℕ) → number - acked < 2 ^ 31 → acked ≤ expected → expected < number + window (truncated number acked).width / 2 → expanded (truncated number acked) expected ≡ number
