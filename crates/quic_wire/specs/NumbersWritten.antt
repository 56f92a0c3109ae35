-- Lists of numbers that are written one after another, each in its shortest form (RFC 9000, section
-- 16).
use Rattle.std.specs.Prelude.{ℕ, ◌+◌, ◌<◌, ◌^◌, List, [], ◌∷◌, ◌++◌, length}
use Rattle.quic_wire_core.specs.Varint.{shortest}

-- Numbers, one after another, each in its shortest form.
abbrev pub written : List ℕ → List ℕ
written [] = []
written (n ∷ ns) = shortest n ++ written ns

-- Each of these numbers has a form as a variable-length integer (RFC 9000, section 16).
abbrev pub AreNumbers : List ℕ → Type 0
AreNumbers [] = Unit {0}
AreNumbers (n ∷ ns) = (n < 2 ^ 62) × AreNumbers ns

-- How many bytes a number takes.
abbrev pub width_of : ℕ → ℕ
width_of n = length (shortest n)

-- How many bytes numbers take.
abbrev pub widths : List ℕ → ℕ
widths [] = 0
widths (n ∷ ns) = width_of n + widths ns
