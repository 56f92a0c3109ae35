-- Which id a datagram is sent to, or why it is refused (RFC 9000, sections 5.2 and 17.3.1).
use Rattle.std.proofs.Common.{◌≡◌, ℕ, ◌+◌, ◌-◌, ◌^◌, ◌<◌, ◌≤◌, List, [], ◌∷◌, ◌++◌, length, take, Option, Some, None, Bool, true, false, refl, arith, cond}
use Rattle.std.specs.Prelude.{nat_eq, nat_lt, nat_le, if◌then◌else◌, Result, Ok, Err, IsTrue, ◌↔◌}
use Rattle.std.specs.List.{list_any, Contains}
use Rattle.std.specs.Cmp.Lexicographic.{pointwise}
use Rattle.std.proofs.lemmas.List.{length-take}
use Rattle.std.proofs.lemmas.Bool.{leb-true}
use Rattle.quic_packet.specs.declared.packet.HeaderError.{HeaderError}
use Rattle.quic_packet.specs.declared.packet.HeaderError.TheVariants.{TooShort, NotShort, FixedBit, UnknownId}
use Rattle.quic_packet.specs.Number.{truncated}
use Rattle.quic_packet.specs.Keys.{Protection, Aead, KeepsForm, KeepsLength, AddsTag}
use Rattle.quic_packet.specs.Datagram.{sent}

-- the id that bytes begin with, where each id has this length
abbrev pub fixed_length_id : ℕ → List ℕ → Option (List ℕ)
fixed_length_id len bytes = if nat_le len (length bytes) then Some (take len bytes) else None

-- what the test of the length tells
front : (b : Bool) (len : ℕ) (bytes id : List ℕ) → nat_le len (length bytes) ≡ b → cond b (Some (take len bytes)) None ≡ Some id → id ≡ take (length id) bytes
front true len bytes id long e =
    let le : len ≤ length bytes = leb-true len (length bytes) long in
    let same : take len bytes ≡ id = cc in
    let size : length (take len bytes) ≡ len = omega (arith, length-take len bytes) in
    rw (← same, size) refl
front false len bytes id long e = absurd cc

-- that id stands in front
pub fixed_length_id-front : (len : ℕ) (bytes id : List ℕ) → fixed_length_id len bytes ≡ Some id → id ≡ take (length id) bytes
fixed_length_id-front len bytes id e = front (nat_le len (length bytes)) len bytes id refl e

-- whether one of the known ids has these bytes
abbrev pub is_known : List ℕ → List (List ℕ) → Bool
is_known id known = list_any (pointwise nat_eq id) known

-- an id is known where it is one of the known ids
abbrev pub KnownIsMember : Type 0
KnownIsMember = (id : List ℕ) (known : List (List ℕ)) → IsTrue (is_known id known) ↔ Contains known id

-- the id, where 4 bytes of number and payload and 16 of tag stand behind it, the top bit is 0, the
-- second bit is 1 and it is known; tested in this order
abbrev pub accepted : List (List ℕ) → ℕ → List ℕ → Option (List ℕ) → Result (List ℕ) HeaderError
accepted known first rest None = Err TooShort
accepted known first rest (Some id) =
    if nat_lt (length rest) (length id + 20) then Err TooShort
    else (if nat_le 128 first then Err NotShort
    else (if nat_lt first 64 then Err FixedBit
    else (if is_known id known then Ok id else Err UnknownId)))

-- the destination id of a datagram, or its refusal, where the bytes behind the first tell the id
abbrev pub decoded : (List ℕ → Option (List ℕ)) → List (List ℕ) → List ℕ → Result (List ℕ) HeaderError
decoded parsed known [] = Err TooShort
decoded parsed known (first ∷ rest) = accepted known first rest (parsed rest)

-- a datagram that was sent to an id is decoded to it by a parser that finds the id in front, or
-- refused as unknown: no other refusal comes
abbrev pub SentIsDecoded : Type 0
SentIsDecoded = (protection : Protection) (aead : Aead) → KeepsForm protection.mask → KeepsLength protection.hide → AddsTag aead.seal → (parsed : List ℕ → Option (List ℕ)) (known : List (List ℕ)) (number acked : ℕ) (id payload : List ℕ) → ((rest : List ℕ) → parsed (id ++ rest) ≡ Some id) → number - acked < 2 ^ 31 → 4 ≤ (truncated number acked).width + length payload → decoded parsed known (sent protection aead number acked id payload) ≡ (if is_known id known then Ok id else Err UnknownId)

-- the parser of one length finds ids of that length in front
abbrev pub FixedLengthFinds : Type 0
FixedLengthFinds = (id rest : List ℕ) → fixed_length_id (length id) (id ++ rest) ≡ Some id
