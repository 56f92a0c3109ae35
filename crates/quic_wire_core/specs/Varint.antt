-- Variable-length integers: numbers below 2 ^ 62 in one, two, four or eight bytes (RFC 9000,
-- section 16).
use Rattle.std.specs.Prelude.{◌≡◌, ℕ, ◌+◌, ◌-◌, ◌*◌, ◌/◌, ◌%◌, ◌^◌, ◌<◌, ◌≤◌, List, [], ◌∷◌, ◌++◌, length, take, drop, Option, Some, None, Result, MatchResult, nat_lt, ◌==◌, slice_index, ◌⊎◌, if◌then◌else◌}
use Rattle.std.specs.Int.{Width, w8, w16, w32, w64, byte_len, from_be_bytes, to_be_bytes}

-- The bytes are the number in this width: big-endian, with a tag for the width in the top two bits
-- (RFC 9000, section 16, table 4).
abbrev pub InWidth : Width → ℕ → ℕ → List ℕ → Type 0
InWidth w tag v bytes = let bits = 8 * byte_len w - 2 in (v < 2 ^ bits) × (bytes ≡ to_be_bytes w (tag * 2 ^ bits + v))

-- The bytes are one of the forms of the number (RFC 9000, section 16): one, two, four or eight
-- bytes.
abbrev pub Spells : ℕ → List ℕ → Type 0
Spells v bytes = ((v < 2 ^ 6) × (bytes ≡ v ∷ [])) ⊎ (InWidth w16 1 v bytes ⊎ (InWidth w32 2 v bytes ⊎ InWidth w64 3 v bytes))

-- The shortest form of a number below 2 ^ 62.
abbrev pub shortest : ℕ → List ℕ
shortest v =
    if nat_lt v (2 ^ 6) then v ∷ []
    else (if nat_lt v (2 ^ 14) then to_be_bytes w16 (2 ^ 14 + v)
    else (if nat_lt v (2 ^ 30) then to_be_bytes w32 (2 * 2 ^ 30 + v)
    else to_be_bytes w64 (3 * 2 ^ 62 + v)))

-- How many bytes the shortest form of a number below 2 ^ 62 has (RFC 9000, section 16, table 4).
abbrev pub varint_size : ℕ → ℕ
varint_size v =
    if nat_lt v (2 ^ 6) then 1
    else (if nat_lt v (2 ^ 14) then 2
    else (if nat_lt v (2 ^ 30) then 4
    else 8))

-- The number of this width at the front, without the two bits that tag the width, and what follows
-- it.
abbrev pub wide_at : Width → List ℕ → Option (ℕ × List ℕ)
wide_at w bytes =
    if nat_lt (length bytes) (byte_len w) then None
    else Some (from_be_bytes w (take (byte_len w) bytes) % 2 ^ (8 * byte_len w - 2), drop (byte_len w) bytes)

-- The number at the front, and what follows it: the top two bits of the first byte tell the width
-- (RFC 9000, appendix A.1).
abbrev pub varint_at : List ℕ → Option (ℕ × List ℕ)
varint_at bytes =
    let tag = slice_index bytes 0 / 2 ^ 6 in
    if tag == 0 then wide_at w8 bytes
    else (if tag == 1 then wide_at w16 bytes
    else (if tag == 2 then wide_at w32 bytes
    else wide_at w64 bytes))

-- The bytes begin with a form of the number, and `rest` follows it.
pub record Begins (bytes : List ℕ) (v : ℕ) (rest : List ℕ) : Type 0 where
  pub front : List ℕ
  pub spells : Spells v front
  pub parts : bytes ≡ front ++ rest

-- A number that is taken where it is below 2 ^ 62, and refused above.
abbrev pub BoundedBy : {E : Type 0} → ℕ → Result ℕ E → Type 0
BoundedBy x r = MatchResult r (λ v. v ≡ x) (λ _. 2 ^ 62 ≤ x)
