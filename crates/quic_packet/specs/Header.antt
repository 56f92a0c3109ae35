-- The short header `0 1 S R R K P P`, destination id, number (RFC 9000, section 17.3.1).
use Rattle.std.specs.Prelude.{ℕ, ◌+◌, ◌-◌, ◌/◌, ◌%◌, List, ◌∷◌, ◌++◌, Bool, ◌==◌}
use Rattle.quic_packet.specs.Number.{Truncated, number_bytes}

-- the first byte of a packet whose number takes so many bytes: the fixed bit, and spin, reserved
-- and key phase bits 0
abbrev pub first_byte : ℕ → ℕ
first_byte width = 64 + (width - 1)

-- a short header: the first byte, the destination id, the number's bytes
abbrev pub header_bytes : List ℕ → Truncated → List ℕ
header_bytes id t = first_byte t.width ∷ (id ++ number_bytes t)

-- the key phase bit of a first byte
abbrev pub key_phase : ℕ → Bool
key_phase first = first / 4 % 2 == 1

-- the two reserved bits of a first byte, as a number
abbrev pub reserved_bits : ℕ → ℕ
reserved_bits first = first / 8 % 4
