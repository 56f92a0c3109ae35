-- Keys that protect nothing: payloads stay clear, the tag shows the number and a mark, and the
-- header is masked by the sample.
use Rattle.std.specs.Prelude.{ℕ, ◌-◌, ◌%◌, List, [], ◌∷◌, ◌++◌, length, take, drop, replicate, Option, Some, None, if◌then◌else◌, nat_le, nat_eq, ◌&&◌, slice_index, bit_xor}
use Rattle.std.specs.Int.{w64, to_be_bytes}
use Rattle.std.specs.Cmp.Lexicographic.{pointwise}
use Rattle.quic_packet.specs.Keys.{Protection, Aead}

-- bytes, each with its mask byte added bit by bit
abbrev pub xored : List ℕ → List ℕ → List ℕ
xored [] mask = []
xored (b ∷ bs) mask = bit_xor b (slice_index mask 0) ∷ xored bs (drop 1 mask)

-- the first byte, its low five bits masked by the sample's first byte
abbrev pub mask_first : List ℕ → ℕ → ℕ
mask_first s b = bit_xor b (slice_index s 0 % 32)

-- the number's bytes, masked by the sample's bytes from the second on
abbrev pub mask_number : List ℕ → List ℕ → List ℕ
mask_number s y = xored y (drop 1 s)

-- the tag: the number in eight bytes, and the mark eight times
abbrev pub tag : ℕ → ℕ → List ℕ
tag mark n = to_be_bytes w64 n ++ replicate 8 mark

-- the payload, and the tag behind it
abbrev pub plain_sealed : ℕ → ℕ → List ℕ → List ℕ → List ℕ
plain_sealed mark n h p = p ++ tag mark n

-- what stands before the tag, where the last 16 bytes are the tag
abbrev pub plain_opened : ℕ → ℕ → List ℕ → List ℕ → Option (List ℕ)
plain_opened mark n h b = if nat_le 16 (length b) && pointwise nat_eq (drop (length b - 16) b) (tag mark n) then Some (take (length b - 16) b) else None

-- what the header keys do: masking undoes masking by the same sample
abbrev pub plain_protection : Protection
plain_protection = record { mask = mask_first; hide = mask_number; unmask = mask_first; reveal = mask_number }

-- what the packet keys of a mark do
abbrev pub plain_aead : ℕ → Aead
plain_aead mark = record { seal = plain_sealed mark; unseal = plain_opened mark }
