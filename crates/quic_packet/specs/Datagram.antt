-- Datagrams of one packet: how they are made of a number, a destination id and a payload, and what
-- they open to.
use Rattle.std.specs.Prelude.{◌≡◌, ℕ, ◌+◌, ◌-◌, ◌^◌, ◌<◌, List, ◌∷◌, ◌++◌, length, take, drop, slice_index, Option, Some, None, ◌==◌, nat_lt, if◌then◌else◌}
use Rattle.quic_packet.specs.Number.{Truncated, truncated, number_bytes, residue_of, expanded}
use Rattle.quic_packet.specs.Keys.{Protection, Aead, KeepsLength, AddsTag, width_in, shielded, unshielded, AreMates}
use Rattle.quic_packet.specs.Header.{first_byte, header_bytes}

-- the packet of a plain one whose number starts there: the payload sealed under the header, then
-- the header protected (RFC 9001, 5.3 and 5.4)
abbrev pub protected : Protection → Aead → ℕ → ℕ → List ℕ → List ℕ
protected protection aead at number plain =
    let header = at + width_in (slice_index plain 0) in
    shielded protection at (take header plain ++ aead.seal number (take header plain) (drop header plain))

-- a datagram from its parts: the first byte, the destination id, the number's bytes and the payload
abbrev pub datagram_of : Protection → Aead → ℕ → ℕ → List ℕ → List ℕ → List ℕ → List ℕ
datagram_of protection aead number first id bytes payload =
    let body = aead.seal number (first ∷ (id ++ bytes)) payload in
    let s = take 16 (drop (4 - length bytes) body) in
    protection.mask s first ∷ (id ++ (protection.hide s bytes ++ body))

-- the datagram of a number, a destination id and a payload, where so many are acknowledged
abbrev pub sent : Protection → Aead → ℕ → ℕ → List ℕ → List ℕ → List ℕ
sent protection aead number acked id payload =
    let t = truncated number acked in
    datagram_of protection aead number (first_byte t.width) id (number_bytes t) payload

-- what a packet opens to: the first byte, shown, the number and the payload
pub record Opening : Type 0 where
  pub first : ℕ
  pub number : ℕ
  pub payload : List ℕ

-- the opening with this payload, if there is one
abbrev pub opening_of : ℕ → ℕ → Option (List ℕ) → Option Opening
opening_of first number None = None
opening_of first number (Some p) = Some (record { first = first; number = number; payload = p })

-- the number of a packet whose header is shown, as it is written
abbrev pub truncated_in : ℕ → List ℕ → Truncated
truncated_in at packet =
    let width = width_in (slice_index packet 0) in
    record { width = width; residue = residue_of (take width (drop at packet)) }

-- what a packet whose header is shown opens to under a number: no number is 2 ^ 62 or more (RFC
-- 9000, 12.3)
abbrev pub opened_under : Aead → ℕ → ℕ → List ℕ → Option Opening
opened_under aead at number packet =
    let header = at + width_in (slice_index packet 0) in
    if nat_lt number (2 ^ 62) then opening_of (slice_index packet 0) number (aead.unseal number (take header packet) (drop header packet)) else None

-- what a packet whose header is shown opens to where this number is expected
abbrev pub opened_plain : Aead → ℕ → ℕ → List ℕ → Option Opening
opened_plain aead at expected packet = opened_under aead at (expanded (truncated_in at packet) expected) packet

-- what a packet opens to whose number starts there, where this number is expected (RFC 9001, 5.3
-- and 5.4)
abbrev pub opened_packet : Protection → Aead → ℕ → ℕ → List ℕ → Option Opening
opened_packet protection aead at expected packet = opened_plain aead at expected (unshielded protection at packet)

-- the datagram opens to this number and payload where the number's bytes expand to it, and to
-- nothing else
abbrev pub OpensAs : Protection → Aead → ℕ → ℕ → ℕ → List ℕ → List ℕ → List ℕ → Type 0
OpensAs protection aead number acked expected id payload datagram =
    let t = truncated number acked in
    opened_packet protection aead (length id + 1) expected datagram ≡ (if expanded t expected == number then Some (record { first = first_byte t.width; number = number; payload = payload }) else None)

-- a mate opens what was sealed, whatever number it expects
abbrev pub MatesOpen : Type 0
MatesOpen = (protection : Protection) (aead : Aead) (protection' : Protection) (aead' : Aead) → AreMates protection aead protection' aead' → (number acked expected : ℕ) (id payload : List ℕ) → number - acked < 2 ^ 31 → number < 2 ^ 62 → OpensAs protection' aead' number acked expected id payload (sent protection aead number acked id payload)

-- a header and a payload, sealed behind other bytes, are the datagram behind them
abbrev pub SealedIsSent : Type 0
SealedIsSent = (protection : Protection) (aead : Aead) → KeepsLength protection.hide → (number acked : ℕ) (before id payload : List ℕ) → number - acked < 2 ^ 31 → let plain = before ++ (header_bytes id (truncated number acked) ++ payload) in take (length before) plain ++ protected protection aead (length id + 1) number (drop (length before) plain) ≡ before ++ sent protection aead number acked id payload

-- a datagram is as long as its header, its payload and the tag
abbrev pub SentLength : Type 0
SentLength = (protection : Protection) (aead : Aead) → KeepsLength protection.hide → AddsTag aead.seal → (number acked : ℕ) (id payload : List ℕ) → number - acked < 2 ^ 31 → length (sent protection aead number acked id payload) ≡ 1 + length id + (truncated number acked).width + length payload + 16
