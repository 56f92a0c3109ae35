-- Moments and lengths of time as numbers of nanoseconds, of which 64 bits hold the lowest.
use Rattle.std.specs.Prelude.{ℕ, ◌-◌, ◌^◌, min, Option, Some, None, nat_le, if◌then◌else◌}

-- a number as 64 bits hold it: the greatest that fits stands for all above it
abbrev pub saturated : ℕ → ℕ
saturated n = min n (2 ^ 64 - 1)

-- a number where 64 bits hold it, else none
abbrev pub if_it_fits : ℕ → Option ℕ
if_it_fits n = if nat_le n (2 ^ 64 - 1) then Some n else None

-- the moment so long before another, where there is one
abbrev pub moment_before : ℕ → ℕ → Option ℕ
moment_before moment length = if nat_le length moment then Some (moment - length) else None

-- a millisecond, below which timers don't tell moments apart (RFC 9002, section 6.1.2)
abbrev pub granularity : ℕ
granularity = 1000000
