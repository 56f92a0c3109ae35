-- A datagram with a header for a known id has room for a number, a sample and a tag.
use Rattle.std.proofs.Common.{◌≡◌, ℕ, ◌+◌, ◌≤◌, List, [], ◌∷◌, length, take, Bool, true, false, cond, Some, None, refl, sym, arith}
use Rattle.std.specs.Prelude.{Result, Ok, Err, OnOk, nat_lt, nat_le, if◌then◌else◌}
use Rattle.std.proofs.lemmas.List.{length-take}
use Rattle.std.proofs.lemmas.Bool.{leb-true, ltb-false}
use Rattle.quic_packet.specs.declared.packet.HeaderError.{HeaderError}
use Rattle.quic_packet.specs.declared.packet.HeaderError.TheVariants.{TooShort, NotShort, FixedBit, UnknownId}
use Rattle.quic_packet.specs.Destination.{decoded, accepted, fixed_length_id, is_known}

-- what the test of the room tells
room : (b : Bool) (first len : ℕ) (known : List (List ℕ)) (rest id out : List ℕ) → length id ≡ len → nat_lt (length rest) (length id + 20) ≡ b
    → cond b (Err TooShort) (if nat_le 128 first then Err NotShort else (if nat_lt first 64 then Err FixedBit else (if is_known id known then Ok id else Err UnknownId))) ≡ Ok out
    → len + 20 ≤ length rest
room true first len known rest id out size short e = absurd cc
room false first len known rest id out size long e =
    let le : length id + 20 ≤ length rest = ltb-false (length rest) (length id + 20) long in
    omega arith

-- what the test of the id tells
found : (b : Bool) (first len : ℕ) (known : List (List ℕ)) (rest out : List ℕ) → nat_le len (length rest) ≡ b
    → accepted known first rest (cond b (Some (take len rest)) None) ≡ Ok out → len + 20 ≤ length rest
found true first len known rest out long e =
    let le : len ≤ length rest = leb-true len (length rest) long in
    let size : length (take len rest) ≡ len = omega (arith, length-take len rest) in
    room (nat_lt (length rest) (length (take len rest) + 20)) first len known rest (take len rest) out size refl e
found false first len known rest out short e = absurd cc

pub decoded_long : (len : ℕ) (known : List (List ℕ)) (datagram out : List ℕ) → decoded (fixed_length_id len) known datagram ≡ Ok out → len + 21 ≤ length datagram
decoded_long len known [] out e = absurd cc
decoded_long len known (first ∷ rest) out e =
    let le : len + 20 ≤ length rest = found (nat_le len (length rest)) first len known rest out refl e in
    omega arith

-- the same of an answer
pub decoded_room : (r : Result (List ℕ) HeaderError) (len : ℕ) (known : List (List ℕ)) (datagram : List ℕ) → r ≡ decoded (fixed_length_id len) known datagram → OnOk r (len + 21 ≤ length datagram)
decoded_room (Ok id) len known datagram e = decoded_long len known datagram id (sym e)
decoded_room (Err x) len known datagram e = tt
