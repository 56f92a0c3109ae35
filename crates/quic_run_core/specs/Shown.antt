-- What is shown of the datagrams that an end gave.
use Rattle.std.specs.Prelude.{◌≡◌, ℕ, ◌+◌, ◌^◌, min, List, [], ◌∷◌, ◌++◌, length, take, nat_lt, if◌then◌else◌, codes, slice_get, Option, Some, None}
use Rattle.std.specs.Fmt.{decimal}
use Rattle.quic_wire_core.specs.declared.stream_id.Side.{Side}
use Rattle.quic_wire_core.specs.StreamId.{other_side}
use Rattle.quic_packet.specs.Datagram.{Opening, opened_packet}
use Rattle.quic_keys.specs.Plain.{plain_protection, plain_aead}
use Rattle.quic_keys.specs.KeysOf.{keys_of}
use Rattle.quic_lines.specs.Printed.{bytes_text}

-- the number and the payload of a datagram that opened
abbrev pub parts_of : Option Opening → Option (ℕ × List ℕ)
parts_of None = None
parts_of (Some o) = Some (o.number, o.payload)

-- What a datagram of an end opens to at the other one, where this number is expected: it has a
-- first byte, an id of eight bytes, and room for a number and a sample.
unfoldable pub opening_at : Side → ℕ → List ℕ → Option (ℕ × List ℕ)
opening_at side expected d = if nat_lt (length d) 29 then None else parts_of (opened_packet plain_protection (plain_aead (keys_of (other_side side)).packet.remote.mark) 9 expected d)

-- the number expected behind this one
abbrev pub number_behind : ℕ → ℕ
number_behind n = min (n + 1) (2 ^ 62)

-- the number of a datagram, or the one that was expected where it doesn't open
abbrev pub number_of : ℕ → Option (ℕ × List ℕ) → ℕ
number_of expected None = expected
number_of expected (Some parts) = parts.0

-- the numbers of datagrams, of which the first is expected to have this one
abbrev pub numbers_from : Side → ℕ → List (List ℕ) → List ℕ
numbers_from side expected [] = []
numbers_from side expected (d ∷ ds) = number_of expected (opening_at side expected d) ∷ numbers_from side (number_behind (number_of expected (opening_at side expected d))) ds

-- the number expected behind datagrams, of which the first is expected to have this one
abbrev pub expected_behind : Side → ℕ → List (List ℕ) → ℕ
expected_behind side expected [] = expected
expected_behind side expected (d ∷ ds) = expected_behind side (number_behind (number_of expected (opening_at side expected d))) ds

-- the number expected behind the last one, if there is one
abbrev pub behind_last : ℕ → Option ℕ → ℕ
behind_last first None = first
behind_last first (Some n) = number_behind n

-- these are the numbers of the first of an end's datagrams
abbrev pub AreNumbers : Side → List (List ℕ) → List ℕ → Type 0
AreNumbers side given numbers = numbers ≡ numbers_from side 0 (take (length numbers) given)

-- number and payload, if there are
abbrev pub parts_text : Option (ℕ × List ℕ) → List ℕ
parts_text None = codes "nodatagram"
parts_text (Some parts) = decimal parts.0 ++ (codes " " ++ bytes_text parts.1)

-- a datagram, if there is one, where this number is expected
abbrev pub datagram_text : Side → ℕ → Option (List ℕ) → List ℕ
datagram_text side expected None = codes "nodatagram"
datagram_text side expected (Some d) = parts_text (opening_at side expected d)

-- the datagram of this index among those that an end gave: the number expected is one above that of
-- the datagram before it, and 0 at the first
abbrev pub shown_text : Side → List (List ℕ) → ℕ → List ℕ
shown_text side given index = datagram_text side (expected_behind side 0 (take index given)) (slice_get given index)
