-- What keys do to packets (RFC 9001, sections 5.3 and 5.4), and when two keys undo one another.
use Rattle.std.specs.Prelude.{◌≡◌, ◌≢◌, ℕ, ◌+◌, ◌-◌, ◌/◌, ◌%◌, ◌^◌, ◌<◌, ◌≤◌, List, ◌∷◌, ◌++◌, length, take, drop, slice_index, Option, Some, None}

-- what a sample makes of the first byte
abbrev pub OfFirst : Type 0
OfFirst = List ℕ → ℕ → ℕ

-- what a sample makes of the number's bytes
abbrev pub OfNumber : Type 0
OfNumber = List ℕ → List ℕ → List ℕ

-- what sealing under a number and a header makes of a payload (RFC 9001, 5.3)
abbrev pub Seal : Type 0
Seal = ℕ → List ℕ → List ℕ → List ℕ

-- the payload that bytes open to under a number and a header, if they do (RFC 9001, 5.3)
abbrev pub Open : Type 0
Open = ℕ → List ℕ → List ℕ → Option (List ℕ)

-- what a header key does by a sample, to the first byte and to the number's bytes: as it protects,
-- and as it shows again (RFC 9001, 5.4)
pub record Protection : Type 0 where
  pub mask : OfFirst
  pub hide : OfNumber
  pub unmask : OfFirst
  pub reveal : OfNumber

-- what a packet key does with payloads (RFC 9001, 5.3)
pub record Aead : Type 0 where
  pub seal : Seal
  pub unseal : Open

-- the first byte keeps its top three bits (RFC 9001, 5.4.1)
abbrev pub KeepsForm : OfFirst → Type 0
KeepsForm change = (s : List ℕ) (first : ℕ) → change s first / 32 ≡ first / 32

-- the number keeps how many bytes it has
abbrev pub KeepsLength : OfNumber → Type 0
KeepsLength change = (s bytes : List ℕ) → length (change s bytes) ≡ length bytes

-- opening gives no more bytes than there were (RFC 9001, 5.3)
abbrev pub OpensNoMore : Open → Type 0
OpensNoMore unseal = (number : ℕ) (header bytes payload : List ℕ) → unseal number header bytes ≡ Some payload → length payload ≤ length bytes

-- sealing adds the tag's 16 bytes (RFC 9001, 5.3)
abbrev pub AddsTag : Seal → Type 0
AddsTag seal = (number : ℕ) (header payload : List ℕ) → length (seal number header payload) ≡ length payload + 16

-- how many bytes the number has, by the first byte (RFC 9000, 17.3.1)
abbrev pub width_in : ℕ → ℕ
width_in first = first % 4 + 1

-- the sample of a packet: 16 bytes, four behind the number's start (RFC 9001, 5.4.2)
abbrev pub sample : ℕ → List ℕ → List ℕ
sample at packet = take 16 (drop (at + 4) packet)

-- the packet with another first byte and another number, and nothing else changed
abbrev pub with_header : ℕ → List ℕ → ℕ → List ℕ → List ℕ
with_header at packet first number = first ∷ (take (at - 1) (drop 1 packet) ++ (number ++ drop (at + length number) packet))

-- the packet with its header protected, where its number starts there (RFC 9001, 5.4.1)
abbrev pub shielded : Protection → ℕ → List ℕ → List ℕ
shielded protection at packet =
    let s = sample at packet in
    with_header at packet (protection.mask s (slice_index packet 0)) (protection.hide s (take (width_in (slice_index packet 0)) (drop at packet)))

-- the packet with its header shown again: the first byte, shown, tells how long the number is (RFC
-- 9001, 5.4.1)
abbrev pub unshielded : Protection → ℕ → List ℕ → List ℕ
unshielded protection at packet =
    let s = sample at packet in
    let first = protection.unmask s (slice_index packet 0) in
    with_header at packet first (protection.reveal s (take (width_in first) (drop at packet)))

-- one key shows again what the other protected by the same sample
pub record IsHeaderMate (giver taker : Protection) : Type 0 where
  pub first : (s : List ℕ) (b : ℕ) → b < 256 → taker.unmask s (giver.mask s b) ≡ b
  pub number : (s y : List ℕ) → length y ≤ 4 → taker.reveal s (giver.hide s y) ≡ y
  pub length : KeepsLength giver.hide

-- opening under a number gives what was sealed under it, and nothing of what was sealed under
-- another
pub record IsMate (giver taker : Aead) : Type 0 where
  pub opens_its : (n : ℕ) (h p : List ℕ) → n < 2 ^ 62 → taker.unseal n h (giver.seal n h p) ≡ Some p
  pub no_other : (m n : ℕ) (h p : List ℕ) → m < 2 ^ 62 → n < 2 ^ 62 → m ≢ n → taker.unseal m h (giver.seal n h p) ≡ None

-- one end's sealing keys and the other end's opening keys are mates, header and packet
pub record AreMates (protection : Protection) (aead : Aead) (protection' : Protection) (aead' : Aead) : Type 0 where
  pub header : IsHeaderMate protection protection'
  pub packet : IsMate aead aead'
