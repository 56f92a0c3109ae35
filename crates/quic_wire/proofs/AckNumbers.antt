-- The numbers of ACK frames have forms, and are few.
use Rattle.std.proofs.Common.{◌≡◌, ℕ, ◌+◌, ◌-◌, ◌*◌, ◌≤◌, ◌<◌, ◌^◌, List, [], ◌∷◌, ◌++◌, length, Option, Some, None, refl, arith}
use Rattle.std.proofs.lemmas.List.{length-append}
use Rattle.quic_wire_core.specs.Law.{length-shortest, varint_size_le}
use Rattle.quic_wire.specs.Value.{AckValue}
use Rattle.quic_wire.specs.FrameTypes.{is_ack, type_of}
use Rattle.quic_wire.specs.NumbersWritten.{AreNumbers, width_of, widths}
use Rattle.quic_wire.specs.AckGrammar.{Below, GoDown, EcnFits, AckFits, has_ecn, range_numbers, ecn_numbers, ack_numbers}
use Rattle.quic_wire.specs.AckWriting.{ack_size, ack_most}
use Rattle.quic_wire.proofs.AckSet.{below_few}

pub AreNumbers-append : (ns ms : List ℕ) → AreNumbers ns → AreNumbers ms → AreNumbers (ns ++ ms)
AreNumbers-append [] ms h k = k
AreNumbers-append (n ∷ ns) ms h k = (h.0, AreNumbers-append ns ms h.1 k)

numbers_last : (ns ms : List ℕ) → AreNumbers (ns ++ ms) → AreNumbers ms
numbers_last [] ms h = h
numbers_last (n ∷ ns) ms h = numbers_last ns ms h.1

type_small : (ecn : Option (ℕ × ℕ × ℕ)) → type_of (is_ack (has_ecn ecn)) < 2 ^ 62
type_small None = omega arith
type_small (Some e) = omega arith

type_width : (ecn : Option (ℕ × ℕ × ℕ)) → width_of (type_of (is_ack (has_ecn ecn))) ≡ 1
type_width None = refl
type_width (Some e) = refl

-- ---- what fits has numbers with forms

ranges_small : (rs : List (ℕ × ℕ)) (low : ℕ) → Below low rs → low < 2 ^ 62 → AreNumbers (range_numbers low rs)
ranges_small [] low h lt = tt
ranges_small (r ∷ rs) low h lt =
    let a : r.0 ≤ r.1 = h.0 in
    let b : r.1 + 2 ≤ low = h.1 in
    (omega arith, (omega arith, ranges_small rs r.0 h.2 (omega arith)))

ecn_are_numbers : (ecn : Option (ℕ × ℕ × ℕ)) → EcnFits ecn → AreNumbers (ecn_numbers ecn)
ecn_are_numbers None h = tt
ecn_are_numbers (Some e) h = (h.0, (h.1, (h.2, tt)))

ack_are : (a : AckValue) (ranges : List (ℕ × ℕ)) → GoDown a.largest ranges → a.largest < 2 ^ 62 → a.delay < 2 ^ 62 → EcnFits a.ecn → AreNumbers (ack_numbers a ranges)
ack_are a [] down large slow counts = absurd down
ack_are a (r ∷ rs) down large slow counts =
    let some : r.0 ≤ r.1 = down.0 in
    let top : r.1 ≡ a.largest = down.1 in
    let few : 2 * length rs ≤ r.0 = below_few rs r.0 down.2 in
    (type_small a.ecn, (large, (slow, (omega arith, (omega arith, AreNumbers-append (range_numbers r.0 rs) (ecn_numbers a.ecn) (ranges_small rs r.0 down.2 (omega arith)) (ecn_are_numbers a.ecn counts))))))

pub ack_are_numbers : (a : AckValue) → AckFits a → AreNumbers (ack_numbers a a.ranges)
ack_are_numbers a h = ack_are a a.ranges h.3 h.0 h.1 h.2

-- ---- what has a form fits

ecn_fits : (ecn : Option (ℕ × ℕ × ℕ)) → AreNumbers (ecn_numbers ecn) → EcnFits ecn
ecn_fits None h = tt
ecn_fits (Some e) h = (h.0, h.1.0, h.1.1.0)

ranges_fit : (a : AckValue) (ranges : List (ℕ × ℕ)) → GoDown a.largest ranges → AreNumbers (ack_numbers a ranges) → (a.largest < 2 ^ 62) × (a.delay < 2 ^ 62) × EcnFits a.ecn
ranges_fit a [] down h = absurd down
ranges_fit a (r ∷ rs) down h = (h.1.0, h.1.1.0, ecn_fits a.ecn (numbers_last (range_numbers r.0 rs) (ecn_numbers a.ecn) h.1.1.1.1.1))

pub numbers_fit : (a : AckValue) → GoDown a.largest a.ranges → AreNumbers (ack_numbers a a.ranges) → AckFits a
numbers_fit a down h = let k = ranges_fit a a.ranges down h in (k.0, k.1, k.2, down)

-- ---- how long it is at most

width_most : (n : ℕ) → width_of n ≤ 8
width_most n = let le = varint_size_le n in omega (arith, length-shortest n, le)

widths_most : (ns : List ℕ) → widths ns ≤ 8 * length ns
widths_most [] = omega arith
widths_most (n ∷ ns) = let a = width_most n in let b = widths_most ns in omega (arith, a, b)

range_count : (rs : List (ℕ × ℕ)) (low : ℕ) → length (range_numbers low rs) ≡ 2 * length rs
range_count [] low = refl
range_count (r ∷ rs) low = let k = range_count rs r.0 in omega (arith, k)

ecn_count : (ecn : Option (ℕ × ℕ × ℕ)) → length (ecn_numbers ecn) ≤ 3
ecn_count None = omega arith
ecn_count (Some e) = omega arith

most : (a : AckValue) (ranges : List (ℕ × ℕ)) → GoDown a.largest ranges → widths (ack_numbers a ranges) ≤ 1 + 8 + 8 + 8 + 8 + 16 * (length ranges - 1) + 24
most a [] down = absurd down
most a (r ∷ rs) down =
    let t = type_width a.ecn in
    let l = width_most a.largest in
    let d = width_most a.delay in
    let c = width_most (length rs) in
    let f = width_most (r.1 - r.0) in
    let ns = range_numbers r.0 rs in
    let ms = ecn_numbers a.ecn in
    let all : widths (ns ++ ms) ≤ 8 * length (ns ++ ms) = widths_most (ns ++ ms) in
    let len : length (ns ++ ms) ≡ length ns + length ms = length-append ns ms in
    let count : length ns ≡ 2 * length rs = range_count rs r.0 in
    let counts : length ms ≤ 3 = ecn_count a.ecn in
    omega (arith, t, l, d, c, f, all, len, count, counts)

pub ack_size_most : (a : AckValue) → AckFits a → ack_size a ≤ ack_most a
ack_size_most a h = most a a.ranges h.3
