-- An ACK frame of few ranges is short.
use Rattle.std.proofs.Common.{◌≡◌, ℕ, ◌+◌, ◌-◌, ◌*◌, ◌≤◌, List, [], ◌∷◌, ◌++◌, length, Option, Some, None, ap, ◌∙◌, arith}
use Rattle.std.proofs.lemmas.List.{length-append}
use Rattle.quic_wire_core.specs.Law.{length-shortest, varint_size_le}
use Rattle.quic_wire_core.specs.Varint.{shortest}
use Rattle.quic_sets.specs.Runs.{Run}
use Rattle.quic_wire.specs.Value.{AckValue}
use Rattle.quic_wire.specs.NumbersWritten.{written, width_of, widths}
use Rattle.quic_wire.specs.FrameTypes.{is_ack, type_of}
use Rattle.quic_wire.specs.AckGrammar.{has_ecn, ecn_numbers, range_numbers, ack_numbers}
use Rattle.quic_wire.specs.AckSet.{ranges_of_set, ack_of_set, greatest}
use Rattle.quic_wire.specs.AckWriting.{ack_spelling, ack_size}
use Rattle.quic_wire.proofs.AckSet.{set_length}
use Rattle.quic_recovery_core.specs.declared.spaces.pending_acks.TheConstants.{MAX_ACK_RUNS}
use Rattle.quic_spaces.specs.Marks.{Counts}
use Rattle.quic_spaces.specs.Acknowledging.{most_ack_bytes}

-- a number takes at most eight bytes
width_most : (n : ℕ) → width_of n ≤ 8
width_most n = let le = varint_size_le n in omega (arith, length-shortest n, le)

-- each range takes two numbers
ranges_most : (rs : List (ℕ × ℕ)) (low : ℕ) (others : List ℕ) → widths (range_numbers low rs ++ others) ≤ 16 * length rs + widths others
ranges_most [] low others = omega arith
ranges_most (r ∷ rs) low others =
    let gap = width_most (low - (r.1 + 2)) in
    let span = width_most (r.1 - r.0) in
    let rest = ranges_most rs r.0 others in
    omega (arith, gap, span, rest)

-- the counts take three
counts_most : (counts : Option Counts) → widths (ecn_numbers counts) ≤ 24
counts_most None = omega arith
counts_most (Some c) =
    let a = width_most c.0 in
    let b = width_most c.1 in
    let d = width_most c.2 in
    omega (arith, a, b, d)

-- a frame type takes one byte
type_width : (counts : Option Counts) → width_of (type_of (is_ack (has_ecn counts))) ≤ 1
type_width None = omega arith
type_width (Some c) = omega arith

-- an ACK frame of at most 64 ranges takes at most 1065 bytes
few_ranges : (largest delay : ℕ) (counts : Option Counts) (all ranges : List (ℕ × ℕ)) → length ranges ≤ 64
    → widths (ack_numbers (record { largest = largest; delay = delay; ranges = all; ecn = counts }) ranges) ≤ most_ack_bytes
few_ranges largest delay counts all [] few = let kind = type_width counts in omega (arith, kind)
few_ranges largest delay counts all (r ∷ rs) few =
    let kind = type_width counts in
    let marks = counts_most counts in
    let a = width_most largest in
    let b = width_most delay in
    let n = width_most (length rs) in
    let d = width_most (r.1 - r.0) in
    let rest = ranges_most rs r.0 (ecn_numbers counts) in
    omega (arith, kind, marks, a, b, n, d, rest)

-- so does that of a set of few runs
pub few_runs : (delay : ℕ) (counts : Option Counts) (runs : List Run) → length runs ≤ MAX_ACK_RUNS → ack_size (ack_of_set delay runs counts) ≤ most_ack_bytes
few_runs delay counts runs few = few_ranges (greatest (ranges_of_set runs)) delay counts (ranges_of_set runs) (ranges_of_set runs) (let same = set_length runs in omega (arith, same, few))

-- numbers take so many bytes
written_length : (ns : List ℕ) → length (written ns) ≡ widths ns
written_length [] = omega arith
written_length (n ∷ ns) = length-append (shortest n) (written ns) ∙ ap (λ m. width_of n + m) (written_length ns)

-- an ACK frame is as long as its size says
pub spelled_length : (a : AckValue) → length (ack_spelling a) ≡ ack_size a
spelled_length a = written_length (ack_numbers a a.ranges)
