-- ACK frames as lists of numbers (RFC 9000, section 19.3).
use Rattle.std.specs.Prelude.{◌≡◌, ℕ, ◌+◌, ◌-◌, ◌≤◌, ◌<◌, ◌^◌, Bool, true, false, List, [], ◌∷◌, ◌++◌, length, Option, Some, None, ◌⊎◌}
use Rattle.quic_wire.specs.Value.{AckValue}
use Rattle.quic_wire.specs.FrameTypes.{is_ack, type_of}

-- Each range lies below the number, and below the one before it, with a number between that isn't
-- acknowledged.
abbrev pub Below : ℕ → List (ℕ × ℕ) → Type 0
Below low [] = Unit {0}
Below low (r ∷ rs) = (r.0 ≤ r.1) × (r.1 + 2 ≤ low) × Below r.0 rs

-- The ranges of an ACK: one at least, the first up to the greatest number, the others below it.
abbrev pub GoDown : ℕ → List (ℕ × ℕ) → Type 0
GoDown largest [] = ⊥
GoDown largest (r ∷ rs) = (r.0 ≤ r.1) × (r.1 ≡ largest) × Below r.0 rs

-- The counts have forms as variable-length integers.
abbrev pub EcnFits : Option (ℕ × ℕ × ℕ) → Type 0
EcnFits None = Unit {0}
EcnFits (Some e) = (e.0 < 2 ^ 62) × (e.1 < 2 ^ 62) × (e.2 < 2 ^ 62)

-- The ACK frame has a form: its ranges go down from its greatest number, and its numbers are below
-- 2^62.
abbrev pub AckFits : AckValue → Type 0
AckFits a = (a.largest < 2 ^ 62) × (a.delay < 2 ^ 62) × EcnFits a.ecn × GoDown a.largest a.ranges

-- Whether there are counts.
abbrev pub has_ecn : Option (ℕ × ℕ × ℕ) → Bool
has_ecn None = false
has_ecn (Some e) = true

-- The numbers of ranges below a number: of each its gap, less two, and its length (section 19.3.1).
abbrev pub range_numbers : ℕ → List (ℕ × ℕ) → List ℕ
range_numbers low [] = []
range_numbers low (r ∷ rs) = (low - (r.1 + 2)) ∷ (r.1 - r.0) ∷ range_numbers r.0 rs

-- The counts of ECT(0), ECT(1) and ECN-CE (section 19.3.2).
abbrev pub ecn_numbers : Option (ℕ × ℕ × ℕ) → List ℕ
ecn_numbers None = []
ecn_numbers (Some e) = e.0 ∷ e.1 ∷ e.2 ∷ []

-- The numbers of an ACK frame with these ranges, behind its type: greatest number, delay, count of
-- further ranges, length of the first range, further ranges, counts.
abbrev pub ack_fields : AckValue → List (ℕ × ℕ) → List ℕ
ack_fields a [] = []
ack_fields a (r ∷ rs) = a.largest ∷ a.delay ∷ length rs ∷ (r.1 - r.0) ∷ (range_numbers r.0 rs ++ ecn_numbers a.ecn)

-- The numbers of an ACK frame with these ranges.
abbrev pub ack_numbers : AckValue → List (ℕ × ℕ) → List ℕ
ack_numbers a ranges = type_of (is_ack (has_ecn a.ecn)) ∷ ack_fields a ranges

-- A range of the ACK holds the number.
abbrev pub InRanges : List (ℕ × ℕ) → ℕ → Type 0
InRanges [] n = ⊥
InRanges (r ∷ rs) n = ((r.0 ≤ n) × (n ≤ r.1)) ⊎ InRanges rs n
