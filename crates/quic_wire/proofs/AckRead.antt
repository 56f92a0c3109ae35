-- What is known of the ranges of an ACK frame that was read: they go down, are as many as were
-- counted, and are written in no more bytes.
use Rattle.std.proofs.Common.{◌≡◌, ℕ, zero, suc, ◌+◌, ◌-◌, ◌≤◌, ◌<◌, Bool, true, false, cond, ltb, eqb, List, ◌∷◌, length, drop, Option, Some, None, Result, Ok, Err, refl, ap, arith, inl, inr}
use Rattle.std.specs.Int.{Width, w8, w16, w32, w64, byte_len, from_be_bytes}
use Rattle.std.specs.Prelude.{slice_index, ◌/◌, ◌%◌, ◌^◌, take, IsOk}
use Rattle.std.proofs.lemmas.Bool.{cases_lt, le-ltb, lt-ltb, ltb-false}
use Rattle.std.proofs.lemmas.List.{length-drop}
use Rattle.quic_wire_core.specs.Law.{length-shortest, varint_size_le}
use Rattle.quic_wire_core.specs.Varint.{shortest, varint_size, varint_at, wide_at}
use Rattle.quic_wire.specs.declared.frame.FrameError.{FrameError}
use Rattle.quic_wire.specs.declared.frame.FrameError.TheVariants.{Malformed}
use Rattle.quic_wire.specs.Fields.{field, var_at}
use Rattle.quic_wire.specs.AckReading.{range_at, ranges_at}
use Rattle.quic_wire.specs.AckGrammar.{Below, EcnFits, AckFits, range_numbers}
use Rattle.quic_wire.specs.AckView.{ranges_of, ecn_view, ack_view, IsAck}
use Rattle.quic_wire.specs.declared.frame.ack.EcnCounts.{EcnCounts}
use Rattle.quic_wire.specs.declared.frame.ack.Ack.TheInside.{Inside}
use Rattle.quic_wire.specs.NumbersWritten.{widths}
use Rattle.quic_wire.proofs.FieldFound.{Holds, after, guard}

-- ---- a number that was read takes no more bytes when it is written

size_8 : (v : ℕ) → v < 64 → length (shortest v) ≤ 1
size_8 v lt = let s : varint_size v ≡ 1 = rw (lt-ltb v 64 lt) refl in omega (arith, length-shortest v, s)

size_16 : (v : ℕ) → v < 16384 → length (shortest v) ≤ 2
size_16 v lt = elim (cases_lt v 64) [
  | inl a ↦ (let s = size_8 v a in omega arith)
  | inr a ↦ (let s : varint_size v ≡ 2 = rw (le-ltb v 64 a, lt-ltb v 16384 lt) refl in omega (arith, length-shortest v, s))
]

size_32 : (v : ℕ) → v < 1073741824 → length (shortest v) ≤ 4
size_32 v lt = elim (cases_lt v 16384) [
  | inl a ↦ (let s = size_16 v a in omega arith)
  | inr a ↦ (let s : varint_size v ≡ 4 = rw (le-ltb v 64 (omega arith), le-ltb v 16384 a, lt-ltb v 1073741824 lt) refl in omega (arith, length-shortest v, s))
]

pub size_64 : (v : ℕ) → length (shortest v) ≤ 8
size_64 v = let s = varint_size_le v in omega (arith, length-shortest v, s)

abbrev HasRoom : ℕ → Option (ℕ × List ℕ) → Type 0
HasRoom n (Some x) = length (shortest x.0) + length x.1 ≤ n
HasRoom n None = Unit {0}

choose_room : (n : ℕ) (b : Bool) (r s : Option (ℕ × List ℕ)) → HasRoom n r → HasRoom n s → HasRoom n (cond b r s)
choose_room n true r s h k = h
choose_room n false r s h k = k

wide_room_if : (w : Width) (bytes : List ℕ) (v : ℕ) (b : Bool) → length (shortest v) ≤ byte_len w → (b ≡ false → byte_len w ≤ length bytes) → HasRoom (length bytes) (cond b None (Some (v, drop (byte_len w) bytes)))
wide_room_if w bytes v true size h = tt
wide_room_if w bytes v false size h = let k = h refl in omega (arith, length-drop (byte_len w) bytes)

varint_room : (bytes : List ℕ) → HasRoom (length bytes) (varint_at bytes)
varint_room bytes =
    let n = length bytes in let t = slice_index bytes 0 / 2 ^ 6 in
    choose_room n (eqb t 0) (wide_at w8 bytes) _ (wide_room_if w8 bytes _ (ltb n 1) (size_8 (from_be_bytes w8 (take 1 bytes) % 64) (omega arith)) (ltb-false _ _))
    (choose_room n (eqb t 1) (wide_at w16 bytes) _ (wide_room_if w16 bytes _ (ltb n 2) (size_16 (from_be_bytes w16 (take 2 bytes) % 16384) (omega arith)) (ltb-false _ _))
    (choose_room n (eqb t 2) (wide_at w32 bytes) (wide_at w64 bytes) (wide_room_if w32 bytes _ (ltb n 4) (size_32 (from_be_bytes w32 (take 4 bytes) % 1073741824) (omega arith)) (ltb-false _ _)) (wide_room_if w64 bytes _ (ltb n 8) (size_64 (from_be_bytes w64 (take 8 bytes) % 4611686018427387904)) (ltb-false _ _))))

field_room : (n : ℕ) (o : Option (ℕ × List ℕ)) → HasRoom n o → Holds (λ x. length (shortest x.0) + length x.1 ≤ n) (field o)
field_room n (Some x) h = record { is = h }
field_room n None h = record { is = tt }

number_room : (bytes : List ℕ) → Holds (λ x. length (shortest x.0) + length x.1 ≤ length bytes) (var_at bytes)
number_room bytes = field_room (length bytes) (varint_at bytes) (varint_room bytes)

-- ---- ranges

range_read : (low : ℕ) (bytes : List ℕ)
    → Holds (λ x. (x.0.0 ≤ x.0.1) × (x.0.1 + 2 ≤ low) × (length (shortest (low - (x.0.1 + 2))) + length (shortest (x.0.1 - x.0.0)) + length x.1 ≤ length bytes)) (range_at low bytes)
unfolding range_at
range_read low bytes =
    after _ _ (var_at bytes) _ (number_room bytes) (λ gap e. guard _ (ltb low (gap.0 + 2)) Malformed _ (λ g. after _ _ (var_at gap.1) _ (number_room gap.1)
    (λ len f. guard _ (ltb (low - (gap.0 + 2)) len.0) Malformed (Ok ((low - (gap.0 + 2) - len.0, low - (gap.0 + 2)), len.1)) (λ h.
    let room : gap.0 + 2 ≤ low = ltb-false _ _ g in
    let fits : len.0 ≤ low - (gap.0 + 2) = ltb-false _ _ h in
    let one : low - (low - (gap.0 + 2) + 2) ≡ gap.0 = omega arith in
    let two : low - (gap.0 + 2) - (low - (gap.0 + 2) - len.0) ≡ len.0 = omega arith in
    record { is = (omega arith, omega arith, rw (one, two) (omega (arith, e, f))) }))))

ranges_read : (count low : ℕ) (bytes : List ℕ) → Holds (λ x. Below low x.0 × (length x.0 ≡ count) × (widths (range_numbers low x.0) + length x.1 ≤ length bytes)) (ranges_at count low bytes)
unfolding ranges_at
ranges_read zero low bytes = record { is = (tt, refl, (let le : 0 + length bytes ≤ length bytes = omega arith in le)) }
ranges_read (suc count) low bytes =
    after _ _ (range_at low bytes) _ (range_read low bytes) (λ x h. after _ _ (ranges_at count x.0.0 x.1) _ (ranges_read count x.0.0 x.1) (λ y k.
    let a = h.2 in let b = k.2 in
    record { is = ((h.0, h.1, k.0), ap suc k.1, omega (arith, a, b)) }))

known : {P : List (ℕ × ℕ) × List ℕ → Type 0} (r : Result (List (ℕ × ℕ) × List ℕ) FrameError) → IsOk r → Holds P r → (rest : List ℕ) × P (ranges_of r, rest)
known (Ok x) ok h = (x.1, h.is)
known (Err e) ok h = absurd cc

pub record Known (count low : ℕ) (bytes : List ℕ) (ranges : List (ℕ × ℕ)) : Type 0 where
  pub down : Below low ranges
  pub number : length ranges ≡ count
  pub size : widths (range_numbers low ranges) ≤ length bytes

pub ranges_known : (count low : ℕ) (bytes : List ℕ) → IsOk (ranges_at count low bytes) → Known count low bytes (ranges_of (ranges_at count low bytes))
ranges_known count low bytes ok =
    let k = known (ranges_at count low bytes) ok (ranges_read count low bytes) in
    let size = k.1.2 in
    record { down = k.1.0; number = k.1.1; size = omega (arith, size) }

-- counts have forms
pub ecn_small : (ecn : Option EcnCounts) → EcnFits (ecn_view ecn)
ecn_small None = tt
ecn_small (Some counts) = counts.small

-- an ACK frame that was read has a form
pub read_fits : (a : Inside) → IsAck a → AckFits (ack_view a)
read_fits a h =
    let k = ranges_known a.count (a.largest - a.first) a.blocks.now h.ranges in
    let least : a.largest - a.first ≤ a.largest = omega arith in
    (h.largest, h.delay, ecn_small a.ecn, (least, refl, k.down))

-- and so many ranges
pub read_count : (a : Inside) → IsAck a → length (ack_view a).ranges ≡ a.count + 1
read_count a h = let k = (ranges_known a.count (a.largest - a.first) a.blocks.now h.ranges).number in omega (arith, k)

first_is : (x r : ℕ × ℕ) (xs rs : List (ℕ × ℕ)) → x ∷ xs ≡ r ∷ rs → (x ≡ r) × (xs ≡ rs)
first_is x r xs rs e = (cc, cc)

-- its further ranges are written in no more bytes than they were read from
pub read_room : (a : Inside) → IsAck a → (r : ℕ × ℕ) (rs : List (ℕ × ℕ)) → (ack_view a).ranges ≡ r ∷ rs → widths (range_numbers r.0 rs) ≤ length a.blocks.now
read_room a h r rs e =
    let p = first_is (a.largest - a.first, a.largest) r (ranges_of (ranges_at a.count (a.largest - a.first) a.blocks.now)) rs e in
    rw (← p.0, ← p.1) (ranges_known a.count (a.largest - a.first) a.blocks.now h.ranges).size
