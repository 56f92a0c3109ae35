-- The packets of a range of numbers, as a map of packets by number gives them.
use Rattle.std.proofs.Common.{◌≡◌, ℕ, ◌<◌, Bool, true, false, not, ◌&&◌, nat_le, [], ◌∷◌, ◌++◌, filter, Some, refl, sym, ap, ◌∙◌, arith}
use Rattle.std.specs.Ordering.{nat_cmp, is_le, is_lt}
use Rattle.std.specs.declared.cmp.Ordering.{Ordering}
use Rattle.std.specs.declared.cmp.Ordering.TheVariants.{Less, Equal, Greater}
use Rattle.std.specs.Cmp.{ranked}
use Rattle.std.proofs.lemmas.Bool.{leb-true, le-leb, lt-leb}
use Rattle.std.proofs.lemmas.List.Elements.{filter_agree}
use Rattle.quic_streams_parts.specs.Table.{Table}
use Rattle.quic_sent_packets.specs.Packets.{TrackedPacket, newest, newest_behind, from, within, is_within}

-- a range's first test as a comparison of numbers
from_start : (a q : ℕ) → is_le (nat_cmp a q) ≡ nat_le a q
from_start a q = go (nat_cmp a q) refl
  where
    go : (r : Ordering) → r ≡ nat_cmp a q → is_le r ≡ nat_le a q
    go Less e = let l : a < q = ranked a q Less e in sym (le-leb a q (omega arith))
    go Equal e = let l : a ≡ q = ranked a q Equal e in sym (le-leb a q (omega arith))
    go Greater e = let l : q < a = ranked a q Greater e in sym (lt-leb a q l)

-- a range's last test as a comparison of numbers
up_to_end : (b q : ℕ) → not (is_lt (nat_cmp b q)) ≡ nat_le q b
up_to_end b q = go (nat_cmp b q) refl
  where
    go : (r : Ordering) → r ≡ nat_cmp b q → not (is_lt r) ≡ nat_le q b
    go Less e = let l : b < q = ranked b q Less e in sym (lt-leb q b l)
    go Equal e = let l : b ≡ q = ranked b q Equal e in sym (le-leb q b (omega arith))
    go Greater e = let l : q < b = ranked b q Greater e in sym (le-leb q b (omega arith))

-- a map's entries between two keys are the packets within
pub between_within : (a b low high : ℕ) (es : Table TrackedPacket) → a ≡ low → b ≡ high → filter (λ e. is_le (nat_cmp a e.0) && not (is_lt (nat_cmp b e.0))) es ≡ within low high es
between_within a b low high es first last = rw (first, last) (filter_agree (λ e. is_le (nat_cmp low e.0) && not (is_lt (nat_cmp high e.0))) (λ e. is_within low high e.0) (λ e. rw (from_start low e.0, up_to_end high e.0) refl) es)

-- the last of some packets is behind all others
pub newest-append : (ps : Table TrackedPacket) (q : ℕ × TrackedPacket) → newest (ps ++ q ∷ []) ≡ Some q
newest-append [] q = refl
newest-append (p ∷ ps) q = ap Some (go p ps)
  where
    go : (p : ℕ × TrackedPacket) (ps : Table TrackedPacket) → newest_behind p (ps ++ q ∷ []) ≡ q
    go p [] = refl
    go p (x ∷ ps) = go x ps

-- a map's entries from a key on are the packets from there
pub between_from : (a low : ℕ) (es : Table TrackedPacket) → a ≡ low → filter (λ e. is_le (nat_cmp a e.0) && not false) es ≡ from low es
between_from a low es first = rw first (filter_agree (λ e. is_le (nat_cmp low e.0) && not false) (λ e. nat_le low e.0) (λ e. alone (is_le (nat_cmp low e.0)) ∙ from_start low e.0) es)
  where
    alone : (b : Bool) → (b && not false) ≡ b
    alone true = refl
    alone false = refl

-- no packet lies within two numbers of which the last is less
pub none_within : (low high : ℕ) (es : Table TrackedPacket) → high < low → within low high es ≡ []
none_within low high [] less = refl
none_within low high (x ∷ es) less = rw (out (nat_le low x.0) refl) (none_within low high es less)
  where
    out : (b : Bool) → nat_le low x.0 ≡ b → is_within low high x.0 ≡ false
    out true is = let le = leb-true low x.0 is in rw (is, lt-leb x.0 high (omega arith)) refl
    out false is = rw is refl
