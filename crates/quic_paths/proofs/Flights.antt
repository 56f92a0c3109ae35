-- What is in flight as packets go and leave.
use Rattle.std.proofs.Common.{◌≡◌, ℕ, ◌+◌, ◌-◌, ◌<◌, ◌≤◌, ◌^◌, Bool, true, false, List, [], ◌∷◌, length, All, IsPermutation, sum_by, refl, sym, ap, subst, ◌∙◌, arith}
use Rattle.std.proofs.lemmas.List.Sums.{sum_by-cons, sum_by-le, count_by-le-length}
use Rattle.std.proofs.lemmas.List.Sorted.{sum_by-IsPermutation}
use Rattle.quic_paths.specs.InFlight.{Flight, flight_with, flight_without, one_if, CanJoin, CanLeave, Packet, flight_of, Call, inserted, removed, flight_after, AreLeft}

both : (a b c d : ℕ) → a ≡ c → b ≡ d → let f : Flight = record { bytes = a; asking = b } in f ≡ record { bytes = c; asking = d }
both a b c d bytes asking = rw bytes (rw asking refl)

-- what a packet adds to a sum over it and others
total : (f : Packet → ℕ) (p : Packet) (others all : List Packet) → IsPermutation (p ∷ others) all → sum_by f all ≡ f p + sum_by f others
total f p others all same = sum_by-IsPermutation f (p ∷ others) all same ∙ sum_by-cons f p others

joined : (p : Packet) (others all : List Packet) → IsPermutation (p ∷ others) all → flight_with (flight_of others) p.size p.asks ≡ flight_of all
joined p others all same =
    let bytes = total (λ q. q.size) p others all same in
    let asking = total (λ q. one_if q.asks) p others all same in
    both _ _ _ _ (omega (arith, bytes)) (omega (arith, asking))

pub parted : (p : Packet) (packets all : List Packet) → IsPermutation (p ∷ packets) all → flight_without (flight_of all) p.size p.asks ≡ flight_of packets
parted p packets all same =
    let bytes = total (λ q. q.size) p packets all same in
    let asking = total (λ q. one_if q.asks) p packets all same in
    both _ _ _ _ (omega (arith, bytes)) (omega (arith, asking))

pub sums : (calls : List Call) (packets : List Packet) → AreLeft packets calls → flight_after calls ≡ flight_of packets
sums [] packets none = rw none refl
sums (inserted p ∷ before) packets (others, left) = ap (λ f. flight_with f p.size p.asks) (sums before others left.1) ∙ joined p others packets left.0
sums (removed p ∷ before) packets (all, left) = ap (λ f. flight_without f p.size p.asks) (sums before all left.1) ∙ parted p packets all left.0

pub one_can_leave : (p : Packet) (packets all : List Packet) → IsPermutation (p ∷ packets) all → CanLeave (flight_of all) p.size p.asks
one_can_leave p packets all same =
    let bytes = total (λ q. q.size) p packets all same in
    let asking = total (λ q. one_if q.asks) p packets all same in
    record { bytes = omega (arith, bytes); asking = omega (arith, asking) }

pub can_leave : (p : Packet) (packets : List Packet) (calls : List Call) → AreLeft packets (removed p ∷ calls) → CanLeave (flight_after calls) p.size p.asks
can_leave p packets calls (all, left) = subst (λ f. CanLeave f p.size p.asks) (sym (sums calls all left.1)) (one_can_leave p packets all left.0)

one_at_most : (b : Bool) → one_if b ≤ 1
one_at_most true = omega arith
one_at_most false = omega arith

pub can_join : (packets : List Packet) (size : ℕ) (asks : Bool) → All (λ (p : Packet). p.size < 2 ^ 16) packets → length packets < 2 ^ 64 - 1 → size < 2 ^ 16
    → CanJoin (flight_of packets) size asks
can_join packets size asks small few fits =
    let bytes = sum_by-le (λ q. q.size) (2 ^ 16 - 1) packets (λ k d h. let one = small k d h in omega (arith, one)) in
    let asking = count_by-le-length (λ q. q.asks) packets in
    let one = one_at_most asks in
    record { bytes = omega (arith, bytes, few, fits); asking = omega (arith, asking, few, one) }
