-- Which id a datagram that was sent is decoded to.
use Rattle.std.proofs.Common.{◌≡◌, ◌+◌, ◌-◌, ◌/◌, ◌<◌, ◌≤◌, Bool, List, [], ◌∷◌, ◌++◌, length, take, drop, true, refl, ◌∙◌, ap, arith, length-append}
use Rattle.std.specs.Prelude.{nat_le, ◌||◌, map}
use Rattle.std.specs.List.{list_any}
use Rattle.std.proofs.lemmas.Bool.{le-ltb, le-leb, lt-leb}
use Rattle.std.proofs.lemmas.Cmp.{nat_list_eq_equiv}
use Rattle.std.proofs.lemmas.List.{take_at}
use Rattle.std.proofs.lemmas.Map.Views.{list_any-from_Contains, Contains-from_any}
use Rattle.std.proofs.lemmas.Slice.Eq.{bytes_eq-Decides}
use Rattle.quic_packet.specs.Number.{truncated, number_bytes}
use Rattle.quic_packet.specs.Header.{first_byte}
use Rattle.quic_packet.specs.Destination.{accepted, KnownIsMember, SentIsDecoded, FixedLengthFinds}
use Rattle.quic_packet.proofs.Numbers.{fewest}
use Rattle.quic_packet.proofs.Opening.{length_of_bytes}

-- a test of what each element gives
pub any_mapped : {X Y : Type 0} (p : X → Bool) (f : Y → X) (ys : List Y) → list_any (λ y. p (f y)) ys ≡ list_any p (map f ys)
any_mapped p f [] = refl
any_mapped p f (y ∷ ys) = ap (λ b. p (f y) || b) (any_mapped p f ys)

-- the test of known ids is membership
pub known_is_member : KnownIsMember
known_is_member id known = (Contains-from_any (λ x y e. (bytes_eq-Decides x y).0 e) id known, list_any-from_Contains nat_list_eq_equiv id known)

-- an id in front is found
pub fixed_length_finds : FixedLengthFinds
fixed_length_finds id rest =
    let long : nat_le (length id) (length (id ++ rest)) ≡ true = le-leb _ _ (omega (arith, length-append id rest)) in
    rw (long, take_at id rest (length id) refl) refl

-- what was sent is decoded to its id
pub sent_is_decoded : SentIsDecoded
sent_is_decoded protection aead form keeps adds parsed known n acked id p finds near four =
    let t = truncated n acked in
    let few = fewest (n - acked) near in
    let y = number_bytes t in
    let first = first_byte t.width in
    let body = aead.seal n (first ∷ (id ++ y)) p in
    let s = take 16 (drop (4 - length y) body) in
    let rest = id ++ (protection.hide s y ++ body) in
    let width : length y ≡ t.width = length_of_bytes n acked near in
    let long : length id + 20 ≤ length rest = omega (arith, length-append id (protection.hide s y ++ body), length-append (protection.hide s y) body, keeps s y, adds n (first ∷ (id ++ y)) p, four, width) in
    let kept : protection.mask s first / 32 ≡ (64 + (t.width - 1)) / 32 = form s first in
    let low : 64 ≤ protection.mask s first = omega (arith, few.some, few.four) in
    let high : protection.mask s first < 128 = omega (arith, few.some, few.four) in
    ap (accepted known (protection.mask s first) rest) (finds (protection.hide s y ++ body)) ∙ rw (le-ltb (length rest) (length id + 20) long, lt-leb 128 (protection.mask s first) high, le-ltb (protection.mask s first) 64 low) refl
