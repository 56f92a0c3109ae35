-- The packets of a range of numbers, as the places are gone through.
use Rattle.std.proofs.Common.{◌≡◌, ℕ, suc, zero, ◌+◌, ◌-◌, ◌≤◌, ◌<◌, min, Bool, true, false, cond, ◌&&◌, List, [], ◌∷◌, ◌++◌, length, filter, nat_le, get_or, take, drop, Option, Some, None, refl, sym, ap, ◌∙◌, append-nil, length-take, length-drop, arith, ⊎_elim}
use Rattle.std.specs.Option.{option_map, is_some}
use Rattle.std.proofs.lemmas.Bool.{le-leb, lt-leb, cases_lt}
use Rattle.std.proofs.lemmas.List.{take_more, take_min, drop-append-le, get_or_read}
use Rattle.std.proofs.lemmas.List.Elements.{filter-append}
use Rattle.quic_streams_parts.specs.Table.{Table}
use Rattle.quic_sent_packets.specs.Packets.{TrackedPacket, from, within, newest}
use Rattle.quic_sent_packets.specs.Places.{in_place, numbered, AllBelow, AllFrom}
use Rattle.quic_sent_packets.proofs.Ranges.{newest-append}
use Rattle.quic_sent_packets.proofs.Joined.{from_less}
use Rattle.quic_sent_packets.proofs.Numbered.{in_front, all_from, numbered_push}

-- the packets up to a number
abbrev up_to : ℕ → Table TrackedPacket → Table TrackedPacket
up_to high es = filter (λ p. nat_le p.0 high) es

-- ---- all of some packets, or none

from_all : (low : ℕ) (es : Table TrackedPacket) → AllFrom low es → from low es ≡ es
from_all low [] all = refl
from_all low (x ∷ es) all = rw (le-leb low x.0 all.0) (ap (λ t. x ∷ t) (from_all low es all.1))

from_none : (low : ℕ) (es : Table TrackedPacket) → AllBelow low es → from low es ≡ []
from_none low [] all = refl
from_none low (x ∷ es) all = rw (lt-leb low x.0 all.0) (from_none low es all.1)

up_to_all : (high : ℕ) (es : Table TrackedPacket) → AllBelow (high + 1) es → up_to high es ≡ es
up_to_all high [] all = refl
up_to_all high (x ∷ es) all = let l = all.0 in rw (le-leb x.0 high (omega arith)) (ap (λ t. x ∷ t) (up_to_all high es all.1))

up_to_none : (b high : ℕ) (es : Table TrackedPacket) → high < b → AllFrom b es → up_to high es ≡ []
up_to_none b high [] l all = refl
up_to_none b high (x ∷ es) l all = let le = all.0 in rw (lt-leb x.0 high (omega arith)) (up_to_none b high es l all.1)

-- those within are those up to the last, from the first on
within_both : (low high : ℕ) (es : Table TrackedPacket) → within low high es ≡ from low (up_to high es)
within_both low high [] = refl
within_both low high (x ∷ es) = go (nat_le low x.0) (nat_le x.0 high) refl (within_both low high es)
  where
    go : (a b : Bool) → nat_le low x.0 ≡ a → within low high es ≡ from low (up_to high es)
        → cond (a && b) (x ∷ within low high es) (within low high es) ≡ from low (cond b (x ∷ up_to high es) (up_to high es))
    go true true is ih = rw is (ap (λ t. x ∷ t) ih)
    go true false is ih = ih
    go false true is ih = rw is ih
    go false false is ih = ih

-- ---- places from a number on, or up to one

from_skip : (b : ℕ) (os : List (Option TrackedPacket)) (k : ℕ) → from (b + k) (numbered b os) ≡ numbered (b + k) (drop k os)
from_skip b os zero =
    let e : b + zero ≡ b = omega arith in
    rw e (from_all b (numbered b os) (all_from b os))
from_skip b [] (suc k) = refl
from_skip b (o ∷ os) (suc k) =
    let e : b + suc k ≡ b + 1 + k = omega arith in
    ap (from (b + suc k)) (in_front b o (numbered (b + 1) os))
    ∙ filter-append (λ p. nat_le (b + suc k) p.0) (in_place b o []) (numbered (b + 1) os)
    ∙ ap (λ es. es ++ from (b + suc k) (numbered (b + 1) os)) (from_none (b + suc k) (in_place b o []) (less o))
    ∙ ap (λ n. from n (numbered (b + 1) os)) e
    ∙ from_skip (b + 1) os k
    ∙ ap (λ n. numbered n (drop k os)) (sym e)
  where
    less : (q : Option TrackedPacket) → AllBelow (b + suc k) (in_place b q [])
    less None = tt
    less (Some p) = (omega arith, tt)

-- the packets from a number on lie in the places from its own on, or in all
pub from_places : (b low s : ℕ) (os : List (Option TrackedPacket)) → s ≡ low - b → from low (numbered b os) ≡ numbered (b + s) (drop s os)
from_places b low s os is = ⊎_elim above at_once (cases_lt b low)
  where
    above : b < low → from low (numbered b os) ≡ numbered (b + s) (drop s os)
    above l = let e : low ≡ b + s = omega arith in ap (λ n. from n (numbered b os)) e ∙ from_skip b os s

    at_once : low ≤ b → from low (numbered b os) ≡ numbered (b + s) (drop s os)
    at_once le =
        let none : s ≡ 0 = omega arith in
        let e : b + 0 ≡ b = omega arith in
        rw (none, e) (from_all low (numbered b os) (from_less b low (numbered b os) le (all_from b os)))

up_to_take : (b : ℕ) (os : List (Option TrackedPacket)) (k high : ℕ) → high + 1 ≡ b + k → up_to high (numbered b os) ≡ numbered b (take k os)
up_to_take b os zero high e = up_to_none b high (numbered b os) (omega arith) (all_from b os)
up_to_take b [] (suc k) high e = refl
up_to_take b (o ∷ os) (suc k) high e =
    ap (up_to high) (in_front b o (numbered (b + 1) os))
    ∙ filter-append (λ p. nat_le p.0 high) (in_place b o []) (numbered (b + 1) os)
    ∙ ap (λ es. es ++ up_to high (numbered (b + 1) os)) (up_to_all high (in_place b o []) (less o))
    ∙ ap (λ es. in_place b o [] ++ es) (up_to_take (b + 1) os k high (omega arith))
    ∙ sym (in_front b o (numbered (b + 1) (take k os)))
  where
    less : (q : Option TrackedPacket) → AllBelow (high + 1) (in_place b q [])
    less None = tt
    less (Some p) = (omega arith, tt)

-- the packets up to a number lie in the places up to its own
up_to_places : (b high e : ℕ) (os : List (Option TrackedPacket)) → e ≡ min (high + 1 - b) (length os) → up_to high (numbered b os) ≡ numbered b (take e os)
up_to_places b high e os is = ⊎_elim below reached (cases_lt high b) ∙ ap (λ n. numbered b (take n os)) (sym is)
  where
    below : high < b → up_to high (numbered b os) ≡ numbered b (take (min (high + 1 - b) (length os)) os)
    below l =
        let none : min (high + 1 - b) (length os) ≡ 0 = omega arith in
        rw none (up_to_none b high (numbered b os) l (all_from b os))

    reached : b ≤ high → up_to high (numbered b os) ≡ numbered b (take (min (high + 1 - b) (length os)) os)
    reached le = up_to_take b os (high + 1 - b) high (omega arith) ∙ ap (numbered b) (sym (take_min (high + 1 - b) os))

-- the packets within two numbers lie in the places between
pub within_places : (b low high s e : ℕ) (os : List (Option TrackedPacket)) → s ≡ low - b → e ≡ min (high + 1 - b) (length os) → within low high (numbered b os) ≡ numbered (b + s) (drop s (take e os))
within_places b low high s e os start end = within_both low high (numbered b os) ∙ ap (from low) (up_to_places b high e os end) ∙ from_places b low s (take e os) start

-- ---- one place further

-- downwards
one_down : (b s i : ℕ) (os : List (Option TrackedPacket)) → s ≤ i → i < length os → numbered (b + s) (drop s (take (i + 1) os)) ≡ numbered (b + s) (drop s (take i os)) ++ in_place (b + i) (get_or os i None) []
one_down b s i os le l =
    let long : length (take i os) ≡ i = simp length-take (omega arith) in
    let left : b + s + length (drop s (take i os)) ≡ b + i = simp (length-drop, length-take) (omega arith) in
    ap (λ xs. numbered (b + s) (drop s xs)) (take_more os i None l)
    ∙ ap (numbered (b + s)) (drop-append-le s (take i os) (get_or os i None ∷ []) (omega arith))
    ∙ numbered_push (b + s) (drop s (take i os)) (get_or os i None)
    ∙ ap (λ n. numbered (b + s) (drop s (take i os)) ++ in_place n (get_or os i None) []) left

-- downwards, past an empty place
pub down_empty : (b s k i : ℕ) (os : List (Option TrackedPacket)) (o : Option TrackedPacket) → k ≡ i + 1 → s ≤ i → i < length os → o ≡ get_or os i o → is_some o ≡ false → numbered (b + s) (drop s (take k os)) ≡ numbered (b + s) (drop s (take i os))
down_empty b s k i os o next le l is none =
    ap (λ n. numbered (b + s) (drop s (take n os))) next
    ∙ one_down b s i os le l
    ∙ ap (λ r. numbered (b + s) (drop s (take i os)) ++ in_place (b + i) r []) (sym (get_or_read os i o l is None) ∙ empty o none)
    ∙ append-nil (numbered (b + s) (drop s (take i os)))
  where
    empty : (r : Option TrackedPacket) → is_some r ≡ false → r ≡ None
    empty None e = refl
    empty (Some p) e = absurd cc

-- downwards, to a packet
pub down_found : (b s k i : ℕ) (os : List (Option TrackedPacket)) (o : Option TrackedPacket) → k ≡ i + 1 → s ≤ i → i < length os → o ≡ get_or os i o → is_some o ≡ true → option_map (λ p. p.0) (newest (numbered (b + s) (drop s (take k os)))) ≡ Some (b + i)
down_found b s k i os o next le l is some =
    ap (λ n. option_map (λ p. p.0) (newest (numbered (b + s) (drop s (take n os))))) next
    ∙ ap (λ es. option_map (λ p. p.0) (newest es)) (one_down b s i os le l)
    ∙ ap (λ r. option_map (λ p. p.0) (newest (numbered (b + s) (drop s (take i os)) ++ in_place (b + i) r []))) (sym (get_or_read os i o l is None))
    ∙ found o some
  where
    found : (r : Option TrackedPacket) → is_some r ≡ true → option_map (λ p. p.0) (newest (numbered (b + s) (drop s (take i os)) ++ in_place (b + i) r [])) ≡ Some (b + i)
    found None e = absurd cc
    found (Some p) e = ap (option_map (λ q. q.0)) (newest-append (numbered (b + s) (drop s (take i os))) (b + i, p))
