-- Writing the numbers of ACK frames.
use Rattle.std.proofs.Common.{◌≡◌, ℕ, ◌+◌, ◌-◌, ◌≤◌, ◌<◌, ◌^◌, List, [], ◌∷◌, ◌++◌, length, take, drop, map, Bool, Option, Some, None, Result, Ok, Err, OnOk, OnErr, refl, sym, ap, ◌∙◌, append_assoc, arith}
use Rattle.std.proofs.lemmas.List.{take_at, take-append-drop}
use Rattle.quic_wire_core.specs.Varint.{shortest}
use Rattle.quic_wire.specs.NumbersWritten.{widths}
use Rattle.quic_wire.specs.Writing.{written, BeginWith, SpendsSpare}
use Rattle.quic_wire.specs.AckGrammar.{GoDown, has_ecn, range_numbers, ecn_numbers, ack_numbers}
use Rattle.quic_wire.specs.FrameTypes.{is_ack, type_of}
use Rattle.quic_wire.specs.Value.{AckValue}
use Rattle.quic_wire.specs.AckView.{bounds_of, whole}
use Rattle.std.specs.Range.{range_inclusive_start, range_inclusive_end, range_inclusive_exhausted}
use Rattle.std.specs.declared.ops.RangeInclusive.{RangeInclusive}
use Rattle.quic_wire.proofs.FrameWritten.{written_append, stands_1}

-- the sizes of two lists of numbers add up
pub size_append : (ns ms : List ℕ) → widths (ns ++ ms) ≡ widths ns + widths ms
size_append [] ms = omega arith
size_append (n ∷ ns) ms = let k = size_append ns ms in omega (arith, k)

-- three lists of numbers one behind another are one list
pub three_written : (w w1 w2 w3 : List ℕ) (a b x : List ℕ) → w1 ≡ w ++ written a → w2 ≡ w1 ++ written b → w3 ≡ w2 ++ written x → w3 ≡ w ++ written (a ++ (b ++ x))
three_written w w1 w2 w3 a b x e1 e2 e3 =
    rw (e3, e2, e1) (append_assoc (w ++ written a) (written b) (written x) ∙ append_assoc w (written a) (written b ++ written x)
    ∙ ap (λ (v : List ℕ). w ++ (written a ++ v)) (sym (written_append b x)) ∙ ap (λ (v : List ℕ). w ++ v) (sym (written_append a (b ++ x))))

pub three_sizes : (a b x : List ℕ) → widths (a ++ (b ++ x)) ≡ widths a + widths b + widths x
three_sizes a b x = let e = size_append a (b ++ x) in let f = size_append b x in omega (arith, e, f)

take_front : (w x v : List ℕ) → take (length w) (take (length (w ++ x)) v) ≡ take (length w) v
take_front [] x v = refl
take_front (c ∷ w) x [] = refl
take_front (c ∷ w) x (d ∷ v) = ap (λ (t : List ℕ). d ∷ t) (take_front w x v)

-- what begins with more begins with less
pub begins_more : (w x v : List ℕ) → BeginWith (w ++ x) v → BeginWith w v
begins_more w x v h = sym (take_front w x v) ∙ ap (take (length w)) h ∙ take_at w x (length w) refl

-- the same behind what was written
pub begins_behind : (w w1 x v : List ℕ) → w1 ≡ w ++ x → BeginWith w1 v → BeginWith w v
begins_behind w w1 x v e h = begins_more w x v (rw e at h)

pub begins_trans : (w w1 v : List ℕ) → BeginWith w w1 → BeginWith w1 v → BeginWith w v
begins_trans w w1 v h k = begins_behind w w1 (drop (length w) w1) v (sym (take-append-drop (length w) w1) ∙ ap (λ (x : List ℕ). x ++ drop (length w) w1) h) k

-- what was there stands before what is written more
pub begins_still : (w w1 w2 x : List ℕ) → BeginWith w w1 → w2 ≡ w1 ++ x → BeginWith w w2
begins_still w w1 w2 x h e = begins_trans w w1 w2 h (rw e (stands_1 w1 x))

-- one range more
pub one_range : (w w1 total : List ℕ) (low : ℕ) (r : ℕ × ℕ) (rest all : List (ℕ × ℕ)) → all ≡ r ∷ rest → w ++ written (range_numbers low all) ≡ total
    → w1 ≡ w ++ written ((low - (r.1 + 2)) ∷ (r.1 - r.0) ∷ []) → w1 ++ written (range_numbers r.0 rest) ≡ total
one_range w w1 total low r rest all is so_far e =
    let ns = (low - (r.1 + 2)) ∷ (r.1 - r.0) ∷ [] in
    rw e (append_assoc w (written ns) (written (range_numbers r.0 rest)) ∙ ap (λ (v : List ℕ). w ++ v) (sym (written_append ns (range_numbers r.0 rest))) ∙ (rw is at so_far))

pub range_sizes : (low : ℕ) (r : ℕ × ℕ) (rest all : List (ℕ × ℕ)) → all ≡ r ∷ rest
    → widths (range_numbers low all) ≡ widths ((low - (r.1 + 2)) ∷ (r.1 - r.0) ∷ []) + widths (range_numbers r.0 rest)
range_sizes low r rest all is = rw is (size_append ((low - (r.1 + 2)) ∷ (r.1 - r.0) ∷ []) (range_numbers r.0 rest))

unwhole_all : (all rest : List (ℕ × ℕ)) → map whole all ≡ map whole rest → all ≡ rest
unwhole_all [] [] e = refl
unwhole_all [] (y ∷ rest) e = absurd cc
unwhole_all (x ∷ all) [] e = absurd cc
unwhole_all (x ∷ all) (y ∷ rest) e =
    let first : whole x ≡ whole y = cc in
    let others : map whole all ≡ map whole rest = cc in
    let low : x.0 ≡ y.0 = ap (λ (z : ℕ × ℕ × Bool). z.0) first in
    let high : x.1 ≡ y.1 = ap (λ (z : ℕ × ℕ × Bool). z.1) first in
    let pair : x ≡ y = rw (low, high) refl in
    rw (pair, unwhole_all all rest others) refl

-- ranges are told by their bounds
pub unwhole : (all rest : List (ℕ × ℕ)) (a b : ℕ) (f : Bool) → map whole all ≡ (a, b, f) ∷ map whole rest → all ≡ (a, b) ∷ rest
unwhole [] rest a b f e = absurd cc
unwhole (x ∷ all) rest a b f e =
    let first : whole x ≡ (a, b, f) = cc in
    let others : map whole all ≡ map whole rest = cc in
    let low : x.0 ≡ a = ap (λ (y : ℕ × ℕ × Bool). y.0) first in
    let high : x.1 ≡ b = ap (λ (y : ℕ × ℕ × Bool). y.1) first in
    rw (unwhole_all all rest others, ← low, ← high) refl

-- ---- three writes in turn

pub last_ok : {T E : Type 0} (r : Result T E) (w w1 w2 w3 all a b x : List ℕ) → all ≡ a ++ (b ++ x) → w1 ≡ w ++ written a → w2 ≡ w1 ++ written b → OnOk r (w3 ≡ w2 ++ written x) → OnOk r (w3 ≡ w ++ written all)
last_ok (Ok y) w w1 w2 w3 all a b x is e1 e2 e3 = three_written w w1 w2 w3 a b x e1 e2 e3 ∙ ap (λ (ns : List ℕ). w ++ written ns) (sym is)
last_ok (Err e) w w1 w2 w3 all a b x is e1 e2 e3 = tt

pub last_err : {T E : Type 0} (r : Result T E) (w w1 w2 w3 a b : List ℕ) → w1 ≡ w ++ a → w2 ≡ w1 ++ b → OnErr r (BeginWith w2 w3) → OnErr r (BeginWith w w3)
last_err (Ok y) w w1 w2 w3 a b e1 e2 h = tt
last_err (Err e) w w1 w2 w3 a b e1 e2 h = begins_behind w w1 a w3 e1 (begins_behind w1 w2 b w3 e2 h)

pub last_spare : {T E : Type 0} (r : Result T E) (s s1 s2 s3 : ℕ) (all a b x : List ℕ) → all ≡ a ++ (b ++ x) → s ≤ s1 + widths a → s1 ≤ s2 + widths b → SpendsSpare r s2 s3 (widths x) → SpendsSpare r s s3 (widths all)
last_spare (Ok y) s s1 s2 s3 all a b x is h k l = let e = ap widths is ∙ three_sizes a b x in omega (arith, e)
last_spare (Err y) s s1 s2 s3 all a b x is h k l = let e = ap widths is ∙ three_sizes a b x in omega (arith, e)

-- where the first or the second of them fails
pub first_spare : (s : ℕ) (all a b x : List ℕ) → all ≡ a ++ (b ++ x) → s < widths a → s < widths all
first_spare s all a b x is h = let e = ap widths is ∙ three_sizes a b x in omega (arith, e)

pub second_spare : (s s1 : ℕ) (all a b x : List ℕ) → all ≡ a ++ (b ++ x) → s ≤ s1 + widths a → s1 < widths b → s < widths all
second_spare s s1 all a b x is h k = let e = ap widths is ∙ three_sizes a b x in omega (arith, e)

-- the numbers of an ACK frame, by its first range and the others
pub ack_numbers_are : (a : AckValue) (rest : List (ℕ × ℕ)) (low high type largest delay count : ℕ) (ecn : Option (ℕ × ℕ × ℕ)) → a.ranges ≡ (low, high) ∷ rest → GoDown a.largest a.ranges
    → type ≡ type_of (is_ack (has_ecn ecn)) → largest ≡ a.largest → delay ≡ a.delay → length a.ranges ≡ count + 1 → ecn ≡ a.ecn
    → ack_numbers a a.ranges ≡ (type ∷ largest ∷ delay ∷ count ∷ (largest - low) ∷ []) ++ (range_numbers low rest ++ ecn_numbers ecn)
ack_numbers_are a rest low high type largest delay count ecn is down named l d n e =
    let top : high ≡ a.largest = (rw is at down).1 in
    let others : length rest ≡ count = omega (arith, ap length is, n) in
    ap (ack_numbers a) is ∙ rw (top, others, ← e, ← named, ← l, ← d) refl

-- the range that comes first of those that are left
pub first_left : (all rest : List (ℕ × ℕ)) (range : RangeInclusive ℕ) (low high : ℕ) → map whole all ≡ bounds_of range ∷ map whole rest → low ≡ range_inclusive_start range → high ≡ range_inclusive_end range → all ≡ (low, high) ∷ rest
first_left all rest range low high h l u = rw (l, u) (unwhole all rest (range_inclusive_start range) (range_inclusive_end range) (range_inclusive_exhausted range) h)

pub none_left : (all : List (ℕ × ℕ)) → map whole all ≡ [] → all ≡ []
none_left [] h = refl
none_left (x ∷ all) h = absurd cc

-- a type of an ACK frame has a form
pub type_small : (type : ℕ) (ecn : Option (ℕ × ℕ × ℕ)) → type ≡ type_of (is_ack (has_ecn ecn)) → type < 2 ^ 62
type_small type None e = omega (arith, e)
type_small type (Some x) e = omega (arith, e)

-- a type of an ACK frame takes one byte
type_short : (ecn : Option (ℕ × ℕ × ℕ)) → length (shortest (type_of (is_ack (has_ecn ecn)))) ≡ 1
type_short None = refl
type_short (Some x) = refl

-- the size of an ACK frame is that of its parts
pub front_size : (type : ℕ) (ns b x all : List ℕ) (ecn : Option (ℕ × ℕ × ℕ)) → all ≡ (type ∷ ns) ++ (b ++ x) → type ≡ type_of (is_ack (has_ecn ecn)) → widths all ≡ 1 + widths ns + widths b + widths x
front_size type ns b x all ecn is named =
    let e : widths all ≡ widths (type ∷ ns) + widths b + widths x = ap widths is ∙ three_sizes (type ∷ ns) b x in
    let one : length (shortest type) ≡ 1 = ap (λ (n : ℕ). length (shortest n)) named ∙ type_short ecn in
    omega (arith, e, one)
