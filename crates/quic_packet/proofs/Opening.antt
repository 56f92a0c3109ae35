-- A datagram that one end sealed opens at its mate.
use Rattle.std.proofs.Common.{◌≡◌, ℕ, zero, suc, ◌+◌, ◌-◌, ◌%◌, ◌^◌, ◌<◌, ◌≤◌, List, ◌∷◌, ◌++◌, length, take, drop, Some, None, Bool, true, false, cond, refl, sym, ◌∙◌, ap, arith, append_assoc, inl, inr}
use Rattle.std.specs.Prelude.{nat_lt, ◌==◌}
use Rattle.std.proofs.lemmas.Bool.{lt-ltb, le-ltb, cases_lt, eqb-true, eqb-false}
use Rattle.std.proofs.lemmas.List.{length-append, take_at, drop_at}
use Rattle.quic_packet.specs.Number.{Truncated, truncated, number_bytes, residue_of, expanded}
use Rattle.quic_packet.specs.Keys.{Protection, Aead, width_in, sample, unshielded, IsHeaderMate, IsMate}
use Rattle.quic_packet.specs.Header.{first_byte, header_bytes}
use Rattle.quic_packet.specs.Datagram.{protected, datagram_of, opening_of, truncated_in, opened_under, opened_plain, MatesOpen, SealedIsSent, SentLength}
use Rattle.quic_packet.proofs.Numbers.{fewest}
use Rattle.quic_packet.proofs.Places.{number_in, sample_of, with_header_parts, shielded_parts, header_of, body_of}

-- sealing a plain packet gives the datagram of its parts
protected_parts : (protection : Protection) (aead : Aead) (at n first : ℕ) (id y p : List ℕ) → at ≡ length id + 1 → width_in first ≡ length y → ((s b : List ℕ) → length (protection.hide s b) ≡ length b) → protected protection aead at n (first ∷ (id ++ (y ++ p))) ≡ datagram_of protection aead n first id y p
protected_parts protection aead at n first id y p e w len =
    let long : at + width_in first ≡ length id + 1 + length y = omega arith in
    let t = aead.seal n (first ∷ (id ++ y)) p in
    rw (header_of first id y p (at + width_in first) long, body_of first id y p (at + width_in first) long, append_assoc id y t)
    (shielded_parts protection first id y t at e w len)

-- the mate shows the header again
unshielded_parts : (protection protection' : Protection) (aead : Aead) (at n first : ℕ) (id y p : List ℕ) → IsHeaderMate protection protection' → at ≡ length id + 1 → width_in first ≡ length y → first < 256 → unshielded protection' at (datagram_of protection aead n first id y p) ≡ first ∷ (id ++ (y ++ aead.seal n (first ∷ (id ++ y)) p))
unshielded_parts protection protection' aead at n first id y p mate e w byte =
    let t = aead.seal n (first ∷ (id ++ y)) p in
    let s = take 16 (drop (4 - length y) t) in
    let le : length y ≤ 4 = omega arith in
    let same = mate.length s y in
    let le_hidden : length (protection.hide s y) ≤ 4 = omega arith in
    let taken : sample at (protection.mask s first ∷ (id ++ (protection.hide s y ++ t))) ≡ s = sample_of (protection.mask s first) id (protection.hide s y) t at e le_hidden ∙ rw same refl in
    let number : take (width_in first) (drop at (protection.mask s first ∷ (id ++ (protection.hide s y ++ t)))) ≡ protection.hide s y = number_in (protection.mask s first) id (protection.hide s y) t at (width_in first) e (w ∙ sym same) in
    rw (taken, mate.first s first byte, number, mate.number s y le) (with_header_parts (protection.mask s first) first id (protection.hide s y) y t at e (sym same))

-- the number's bytes are as many as its width, and say its residue
value_of_bytes : (w r : ℕ) → 1 ≤ w → w ≤ 4 → r < 256 ^ w → let t : Truncated = record { width = w; residue = r } in (length (number_bytes t) ≡ w) × (residue_of (number_bytes t) ≡ r)
value_of_bytes zero r a b lt = absurd (omega arith)
value_of_bytes (suc zero) r a b lt = (refl, omega arith)
value_of_bytes (suc (suc zero)) r a b lt = (refl, omega arith)
value_of_bytes (suc (suc (suc zero))) r a b lt = (refl, omega arith)
value_of_bytes (suc (suc (suc (suc zero)))) r a b lt = (refl, omega arith)
value_of_bytes (suc (suc (suc (suc (suc n))))) r a b lt = absurd (omega arith)

-- what a packet opens to whose header is shown, by its parts
opened_parts : (aead : Aead) (at x first : ℕ) (id y b : List ℕ) (t : Truncated) → at ≡ length id + 1 → width_in first ≡ length y → t.width ≡ length y → residue_of y ≡ t.residue → opened_plain aead at x (first ∷ (id ++ (y ++ b))) ≡ cond (nat_lt (expanded t x) (2 ^ 62)) (opening_of first (expanded t x) (aead.unseal (expanded t x) (first ∷ (id ++ y)) b)) None
opened_parts aead at x first id y b t e w tw low =
    let packet = first ∷ (id ++ (y ++ b)) in
    let long : at + width_in first ≡ length id + 1 + length y = omega arith in
    let is : truncated_in at packet ≡ t = rw (number_in first id y b at (width_in first) e w, low, w, ← tw) refl in
    ap (λ (k : Truncated). opened_under aead at (expanded k x) packet) is ∙ rw (header_of first id y b (at + width_in first) long, body_of first id y b (at + width_in first) long) refl

-- a remainder is below its divisor
below : (w n : ℕ) → 0 < w → n % w < w
below w n lt = omega arith

-- the first byte's low bits tell the width
width_of_first : (w : ℕ) → 1 ≤ w → w ≤ 4 → width_in (first_byte w) ≡ w
width_of_first w a b = omega arith

-- the payload where the expanded number is the sealed one, and nothing where it is another
finish : (aead aead' : Aead) (first m n : ℕ) (h p : List ℕ) (b : Bool) → IsMate aead aead' → n < 2 ^ 62 → (m == n) ≡ b → cond (nat_lt m (2 ^ 62)) (opening_of first m (aead'.unseal m h (aead.seal n h p))) None ≡ cond b (Some (record { first = first; number = n; payload = p })) None
finish aead aead' first m n h p true mate lt e =
    let same : m ≡ n = eqb-true m n e in
    rw (same, lt-ltb n (2 ^ 62) lt, mate.opens_its n h p lt) refl
finish aead aead' first m n h p false mate lt e = elim (cases_lt m (2 ^ 62)) [
  | inl small ↦ rw (lt-ltb m (2 ^ 62) small, mate.no_other m n h p small lt (eqb-false m n e)) refl
  | inr big ↦ rw (le-ltb m (2 ^ 62) big) refl
]

-- a mate opens what was sealed
pub mates_open : MatesOpen
mates_open protection aead protection' aead' mates n acked x id p near lt =
    let t = truncated n acked in
    let few = fewest (n - acked) near in
    let fits : n % 256 ^ t.width < 256 ^ t.width = below (256 ^ t.width) n (omega (arith, few.enough)) in
    let said = value_of_bytes t.width t.residue few.some few.four fits in
    let y = number_bytes t in
    let w : width_in (first_byte t.width) ≡ length y = width_of_first t.width few.some few.four ∙ sym said.0 in
    let byte : first_byte t.width < 256 = omega (arith, few.four) in
    ap (λ (d : List ℕ). opened_plain aead' (length id + 1) x d) (unshielded_parts protection protection' aead (length id + 1) n (first_byte t.width) id y p mates.header refl w byte)
    ∙ (opened_parts aead' (length id + 1) x (first_byte t.width) id y (aead.seal n (first_byte t.width ∷ (id ++ y)) p) t refl w (sym said.0) said.1
    ∙ finish aead aead' (first_byte t.width) (expanded t x) n (first_byte t.width ∷ (id ++ y)) p (expanded t x == n) mates.packet lt refl)

-- the number's bytes are as many as its width
pub length_of_bytes : (n acked : ℕ) → n - acked < 2 ^ 31 → length (number_bytes (truncated n acked)) ≡ (truncated n acked).width
length_of_bytes n acked near =
    let t = truncated n acked in
    let few = fewest (n - acked) near in
    let fits : n % 256 ^ t.width < 256 ^ t.width = below (256 ^ t.width) n (omega (arith, few.enough)) in
    (value_of_bytes t.width t.residue few.some few.four fits).0

-- the first byte tells how many bytes the number has
width_of_bytes : (n acked : ℕ) → n - acked < 2 ^ 31 → width_in (first_byte (truncated n acked).width) ≡ length (number_bytes (truncated n acked))
width_of_bytes n acked near =
    let t = truncated n acked in
    let few = fewest (n - acked) near in
    width_of_first t.width few.some few.four ∙ sym (length_of_bytes n acked near)

-- sealing behind other bytes gives the datagram behind them
pub sealed_is_sent : SealedIsSent
sealed_is_sent protection aead keeps n acked was id p near =
    let t = truncated n acked in
    let y = number_bytes t in
    let first = first_byte t.width in
    let parts : header_bytes id t ++ p ≡ first ∷ (id ++ (y ++ p)) = ap (λ (z : List ℕ). first ∷ z) (append_assoc id y p) in
    let front : take (length was) (was ++ (header_bytes id t ++ p)) ≡ was = take_at was (header_bytes id t ++ p) (length was) refl in
    let back : drop (length was) (was ++ (header_bytes id t ++ p)) ≡ first ∷ (id ++ (y ++ p)) = drop_at was (header_bytes id t ++ p) (length was) refl ∙ parts in
    rw (front, back) (ap (λ (z : List ℕ). was ++ z) (protected_parts protection aead (length id + 1) n first id y p refl (width_of_bytes n acked near) keeps))

-- how long a datagram is
pub sent_length : SentLength
sent_length protection aead keeps adds n acked id p near =
    let t = truncated n acked in
    let y = number_bytes t in
    let h = first_byte t.width ∷ (id ++ y) in
    let body = aead.seal n h p in
    let s = take 16 (drop (4 - length y) body) in
    let width : length y ≡ t.width = length_of_bytes n acked near in
    omega (arith, length-append id (protection.hide s y ++ body), length-append (protection.hide s y) body, keeps s y, adds n h p, width)
