-- What a number is cut against, in a datagram that closes its connection: the least number with
-- which it has so many bytes (RFC 9000, section 17.1 and A.2).
use Rattle.std.proofs.Common.{◌≡◌, ℕ, ◌+◌, ◌-◌, ◌*◌, ◌%◌, ◌^◌, ◌<◌, ◌≤◌, Bool, true, false, List, inl, inr, refl, sym, ap, ◌∙◌, subst, arith}
use Rattle.std.specs.Prelude.{nat_lt, if◌then◌else◌}
use Rattle.std.proofs.lemmas.Bool.{cases_lt, le-ltb, lt-ltb}
use Rattle.quic_wire.specs.Value.{FrameValue}
use Rattle.quic_packet.specs.Number.{Truncated, truncated, window, width_for, number_bytes}
use Rattle.quic_packet.specs.Keys.{width_in}
use Rattle.quic_packet.specs.Header.{first_byte}
use Rattle.quic_packet.specs.Datagram.{datagram_of}
use Rattle.quic_machine.specs.Policy.{Policy}
use Rattle.quic_headline.specs.Observer.{farthest, reference_for, moment_for}
use Rattle.quic_headline.proofs.Packets.Invariant.{IsGiven}

-- ---- widths

-- how many bytes tell apart so many numbers
one_byte : (between : ℕ) → 2 * between < 256 → width_for between ≡ 1
one_byte between a = ap (λ (b : Bool). if b then 1 else (if nat_lt (2 * between) 65536 then 2 else (if nat_lt (2 * between) 16777216 then 3 else 4))) (lt-ltb (2 * between) 256 a)

two_bytes : (between : ℕ) → 256 ≤ 2 * between → 2 * between < 65536 → width_for between ≡ 2
two_bytes between a b =
    ap (λ (c : Bool). if c then 1 else (if nat_lt (2 * between) 65536 then 2 else (if nat_lt (2 * between) 16777216 then 3 else 4))) (le-ltb (2 * between) 256 a)
    ∙ ap (λ (c : Bool). if c then 2 else (if nat_lt (2 * between) 16777216 then 3 else 4)) (lt-ltb (2 * between) 65536 b)

three_bytes : (between : ℕ) → 65536 ≤ 2 * between → 2 * between < 16777216 → width_for between ≡ 3
three_bytes between a b =
    ap (λ (c : Bool). if c then 1 else (if nat_lt (2 * between) 65536 then 2 else (if nat_lt (2 * between) 16777216 then 3 else 4))) (le-ltb (2 * between) 256 (omega arith))
    ∙ ap (λ (c : Bool). if c then 2 else (if nat_lt (2 * between) 16777216 then 3 else 4)) (le-ltb (2 * between) 65536 a)
    ∙ ap (λ (c : Bool). if c then 3 else 4) (lt-ltb (2 * between) 16777216 b)

four_bytes : (between : ℕ) → 16777216 ≤ 2 * between → width_for between ≡ 4
four_bytes between a =
    ap (λ (c : Bool). if c then 1 else (if nat_lt (2 * between) 65536 then 2 else (if nat_lt (2 * between) 16777216 then 3 else 4))) (le-ltb (2 * between) 256 (omega arith))
    ∙ ap (λ (c : Bool). if c then 2 else (if nat_lt (2 * between) 16777216 then 3 else 4)) (le-ltb (2 * between) 65536 (omega arith))
    ∙ ap (λ (c : Bool). if c then 3 else 4) (le-ltb (2 * between) 16777216 a)

-- the cases of how many bytes tell apart so many numbers
by_width : (P : ℕ → Type 0) (between : ℕ) → (2 * between < 256 → P 1) → (256 ≤ 2 * between → 2 * between < 65536 → P 2) → (65536 ≤ 2 * between → 2 * between < 16777216 → P 3) → (16777216 ≤ 2 * between → P 4) → P (width_for between)
by_width P between one two three four =
    elim (cases_lt (2 * between) 256) [
      | inl a ↦ subst P (sym (one_byte between a)) (one a)
      | inr a ↦ elim (cases_lt (2 * between) 65536) [
        | inl b ↦ subst P (sym (two_bytes between a b)) (two a b)
        | inr b ↦ elim (cases_lt (2 * between) 16777216) [
          | inl c ↦ subst P (sym (three_bytes between b c)) (three b c)
          | inr c ↦ subst P (sym (four_bytes between c)) (four c)
        ]
      ]
    ]

-- a packet's first byte says how many bytes its number has
pub width_shown : (n reference : ℕ) → n - reference < 2 ^ 31 → width_in (first_byte (truncated n reference).width) ≡ (truncated n reference).width
width_shown n reference near = by_width (λ (w : ℕ). width_in (first_byte w) ≡ w) (n - reference) (λ a. refl) (λ a b. refl) (λ a b. refl) (λ a. refl)

-- ---- the least reference

-- a number has as many bytes where it is cut against that
pub least_width : (n reference : ℕ) → width_for (n - (n - farthest (width_for (n - reference)))) ≡ width_for (n - reference)
least_width n reference = by_width (λ (w : ℕ). width_for (n - (n - farthest w)) ≡ w) (n - reference)
    (λ a. one_byte (n - (n - farthest 1)) (omega arith))
    (λ a b. two_bytes (n - (n - farthest 2)) (omega arith) (omega arith))
    (λ a b. three_bytes (n - (n - farthest 3)) (omega arith) (omega arith))
    (λ a. four_bytes (n - (n - farthest 4)) (omega arith))

-- so it is written as it was
least_same : (n reference : ℕ) → truncated n (n - farthest (width_for (n - reference))) ≡ truncated n reference
least_same n reference = ap (λ (w : ℕ). record { width = w; residue = n % window w }) (least_width n reference)

-- it isn't above the other, where that is near
pub cut_low : (closes : Bool) (n reference : ℕ) → n - reference < 2 ^ 31 → reference_for closes n (truncated n reference).width reference ≤ reference
cut_low true n reference near = by_width (λ (w : ℕ). n - farthest w ≤ reference) (n - reference) (λ a. omega arith) (λ a b. omega arith) (λ a b. omega arith) (λ a. omega arith)
cut_low false n reference near = omega arith

-- nor above the number that goes next
pub cut_before : (closes : Bool) (n reference next : ℕ) → n ≤ next + 1 → reference ≤ next → reference_for closes n (truncated n reference).width reference ≤ next
cut_before true n reference next near behind = by_width (λ (w : ℕ). n - farthest w ≤ next) (n - reference) (λ a. omega arith) (λ a b. omega arith) (λ a b. omega arith) (λ a. omega arith)
cut_before false n reference next near behind = behind

-- and the number is near it
least_near : (n reference : ℕ) → n - (n - farthest (width_for (n - reference))) < 2 ^ 31
least_near n reference = by_width (λ (w : ℕ). n - (n - farthest w) < 2 ^ 31) (n - reference) (λ a. omega arith) (λ a b. omega arith) (λ a b. omega arith) (λ a. omega arith)

-- the datagram of a number that was cut against the one is that which was cut against the other
pub given_for : (closes : Bool) (p : Policy) (id : List ℕ) (n reference : ℕ) (frames : List FrameValue) (d : List ℕ) → IsGiven p id n reference frames d → IsGiven p id n (reference_for closes n (truncated n reference).width reference) frames d
given_for false p id n reference frames d g = g
given_for true p id n reference frames d g = record {
  long = g.long;
  payload = g.payload;
  spells = g.spells;
  some = g.some;
  four = let same = least_width n reference in let enough = g.four in omega arith;
  near = least_near n reference;
  small = g.small;
  is = g.is ∙ ap (λ (t : Truncated). datagram_of p.header p.packet n (first_byte t.width) id (number_bytes t) g.payload) (sym (least_same n reference));
}

-- ---- what is read

-- the reference that is read off a datagram is that with which it was given
pub reference_read : (closes : Bool) (n reference acked : ℕ) → (closes ≡ false → reference ≡ acked)
    → reference_for closes n (truncated n (reference_for closes n (truncated n reference).width reference)).width acked ≡ reference_for closes n (truncated n reference).width reference
reference_read true n reference acked same = ap (λ (w : ℕ). n - farthest w) (least_width n reference)
reference_read false n reference acked same = sym (same refl)

-- and so is the moment
pub moment_read : (closes : Bool) (seen moment : ℕ) → (closes ≡ false → seen ≡ moment) → moment_for closes seen ≡ moment_for closes moment
moment_read true seen moment same = refl
moment_read false seen moment same = same refl
