-- What is read as an ACK frame is a form of that frame, and its ranges go down.
use Rattle.std.proofs.Common.{◌≡◌, ℕ, zero, suc, ◌-◌, ◌+◌, ◌≤◌, Bool, true, false, ltb, List, [], ◌∷◌, ◌++◌, length, Ok, refl, ap, subst, ◌∙◌, append_assoc, arith}
use Rattle.std.proofs.lemmas.Bool.{ltb-false}
use Rattle.std.proofs.lemmas.List.{append-nil}
use Rattle.quic_wire_core.specs.Coding.{IsBytes}
use Rattle.quic_wire.specs.declared.frame.FrameError.TheVariants.{Malformed}
use Rattle.quic_wire.specs.Value.{AckValue}
use Rattle.quic_wire.specs.FrameTypes.{is_ack, type_of}
use Rattle.quic_wire.specs.Fields.{var_at}
use Rattle.quic_wire.specs.AckReading.{range_at, ranges_at, ecn_at, some_ecn_at, ack_at}
use Rattle.quic_wire.specs.AckGrammar.{Below, GoDown, has_ecn, range_numbers, ecn_numbers, ack_numbers}
use Rattle.quic_wire.specs.Grammar.{Numbers}
use Rattle.quic_wire.proofs.FieldFound.{Holds, bind, after, guard, Sofar, more}

range_found : (low : ℕ) (all ns bytes : List ℕ) → Sofar all ns bytes
    → Holds (λ x. Sofar all ((ns ++ (low - (x.0.1 + 2)) ∷ []) ++ (x.0.1 - x.0.0) ∷ []) x.1 × (x.0.0 ≤ x.0.1) × (x.0.1 + 2 ≤ low)) (range_at low bytes)
unfolding range_at
range_found low all ns bytes s =
    bind _ (var_at bytes) _ (λ gap e. guard _ (ltb low (gap.0 + 2)) Malformed _ (λ g. bind _ (var_at gap.1) _ (λ len f. guard _ (ltb (low - (gap.0 + 2)) len.0) Malformed (Ok ((low - (gap.0 + 2) - len.0, low - (gap.0 + 2)), len.1)) (λ h.
    let room : gap.0 + 2 ≤ low = ltb-false _ _ g in
    let fits : len.0 ≤ low - (gap.0 + 2) = ltb-false _ _ h in
    let one : low - (low - (gap.0 + 2) + 2) ≡ gap.0 = omega arith in
    let two : low - (gap.0 + 2) - (low - (gap.0 + 2) - len.0) ≡ len.0 = omega arith in
    record { is = (rw (one, two) (more all (ns ++ gap.0 ∷ []) gap.1 len (more all ns bytes gap s e) f), omega arith, omega arith) }))))

pub ranges_found : (count low : ℕ) (all ns bytes : List ℕ) → Sofar all ns bytes
    → Holds (λ x. Sofar all (ns ++ range_numbers low x.0) x.1 × Below low x.0 × (length x.0 ≡ count)) (ranges_at count low bytes)
unfolding ranges_at
ranges_found zero low all ns bytes s = record { is = (rw (append-nil ns) s, tt, refl) }
ranges_found (suc count) low all ns bytes s =
    after _ _ (range_at low bytes) _ (range_found low all ns bytes s) (λ x h. after _ _ (ranges_at count x.0.0 x.1) _ (ranges_found count x.0.0 all _ x.1 h.0) (λ y k.
    let grouped : ((ns ++ (low - (x.0.1 + 2)) ∷ []) ++ (x.0.1 - x.0.0) ∷ []) ++ range_numbers x.0.0 y.0 ≡ ns ++ range_numbers low (x.0 ∷ y.0) = append_assoc (ns ++ (low - (x.0.1 + 2)) ∷ []) ((x.0.1 - x.0.0) ∷ []) (range_numbers x.0.0 y.0) ∙ append_assoc ns ((low - (x.0.1 + 2)) ∷ []) ((x.0.1 - x.0.0) ∷ range_numbers x.0.0 y.0) in
    record { is = (subst (λ (ms : List ℕ). Sofar all ms y.1) grouped k.0, (h.1, h.2, k.1), ap suc k.2) }))

ecn_found : (all ns bytes : List ℕ) → Sofar all ns bytes → Holds (λ x. Sofar all (ns ++ x.0.0 ∷ x.0.1 ∷ x.0.2 ∷ []) x.1) (ecn_at bytes)
unfolding ecn_at
ecn_found all ns bytes s =
    bind _ (var_at bytes) _ (λ a e. bind _ (var_at a.1) _ (λ b f. bind _ (var_at b.1) _ (λ c g.
    let grouped : ((ns ++ a.0 ∷ []) ++ b.0 ∷ []) ++ c.0 ∷ [] ≡ ns ++ a.0 ∷ b.0 ∷ c.0 ∷ [] = append_assoc (ns ++ a.0 ∷ []) (b.0 ∷ []) (c.0 ∷ []) ∙ append_assoc ns (a.0 ∷ []) (b.0 ∷ c.0 ∷ []) in
    record { is = subst (λ (ms : List ℕ). Sofar all ms c.1) grouped (more all _ b.1 c (more all _ a.1 b (more all ns bytes a s e) f) g) })))

some_ecn_found : (b : Bool) (all ns bytes : List ℕ) → Sofar all ns bytes → Holds (λ x. Sofar all (ns ++ ecn_numbers x.0) x.1 × (has_ecn x.0 ≡ b)) (some_ecn_at b bytes)
unfolding some_ecn_at
some_ecn_found false all ns bytes s = record { is = (rw (append-nil ns) s, refl) }
some_ecn_found true all ns bytes s = after _ _ (ecn_at bytes) _ (ecn_found all ns bytes s) (λ x h. record { is = (h, refl) })

-- an ACK frame that was read up to this rest
pub record AckFound (a : AckValue) (all rest : List ℕ) : Type 0 where
  pub form : List ℕ
  pub down : GoDown a.largest a.ranges
  pub numbers : Numbers (ack_numbers a a.ranges) form
  pub parts : all ≡ form ++ rest
  pub fits : IsBytes rest

pub ack_found : (b : Bool) (all bytes : List ℕ) → Sofar all (type_of (is_ack b) ∷ []) bytes → Holds (λ x. AckFound x.0 all x.1) (ack_at b bytes)
unfolding ack_at
ack_found b all bytes s =
    let type = type_of (is_ack b) in
    bind _ (var_at bytes) _ (λ largest e1. bind _ (var_at largest.1) _ (λ delay e2. bind _ (var_at delay.1) _ (λ count e3. bind _ (var_at count.1) _ (λ first e4.
    guard _ (ltb largest.0 first.0) Malformed _ (λ g.
    let s1 = more all (type ∷ []) bytes largest s e1 in
    let s2 = more all (type ∷ largest.0 ∷ []) largest.1 delay s1 e2 in
    let s3 = more all (type ∷ largest.0 ∷ delay.0 ∷ []) delay.1 count s2 e3 in
    let s4 = more all (type ∷ largest.0 ∷ delay.0 ∷ count.0 ∷ []) count.1 first s3 e4 in
    let fits : first.0 ≤ largest.0 = ltb-false _ _ g in
    after _ _ (ranges_at count.0 (largest.0 - first.0) first.1) _ (ranges_found count.0 (largest.0 - first.0) all (type ∷ largest.0 ∷ delay.0 ∷ count.0 ∷ first.0 ∷ []) first.1 s4)
    (λ rs h. after _ _ (some_ecn_at b rs.1) _ (some_ecn_found b all (type ∷ largest.0 ∷ delay.0 ∷ count.0 ∷ first.0 ∷ range_numbers (largest.0 - first.0) rs.0) rs.1 h.0)
    (λ ecn k.
    let back : largest.0 - (largest.0 - first.0) ≡ first.0 = omega arith in
    let numbers : Numbers (type_of (is_ack (has_ecn ecn.0)) ∷ largest.0 ∷ delay.0 ∷ length rs.0 ∷ (largest.0 - (largest.0 - first.0)) ∷ (range_numbers (largest.0 - first.0) rs.0 ++ ecn_numbers ecn.0)) k.0.front =
    rw (back, k.1, h.2) k.0.numbers in
    record { is = record { form = k.0.front; down = (omega arith, refl, h.1); numbers = numbers; parts = k.0.parts; fits = k.0.fits } })))))))
