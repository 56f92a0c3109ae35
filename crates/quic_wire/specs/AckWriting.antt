-- The form in which ACK frames are written: each number in its shortest width (RFC 9000, sections
-- 16 and 19.3).
use Rattle.std.specs.Prelude.{ℕ, ◌+◌, ◌-◌, ◌*◌, List, length}
use Rattle.quic_wire.specs.Value.{AckValue}
use Rattle.quic_wire.specs.AckGrammar.{ack_numbers}
use Rattle.quic_wire.specs.NumbersWritten.{written, widths}

-- How an ACK frame is written.
abbrev pub ack_spelling : AckValue → List ℕ
ack_spelling a = written (ack_numbers a a.ranges)

-- How many bytes an ACK frame takes.
abbrev pub ack_size : AckValue → ℕ
ack_size a = widths (ack_numbers a a.ranges)

-- The most bytes that an ACK frame takes: 1 for its type, 8 for each of four numbers, 16 for each
-- further range, and 24 for the counts.
abbrev pub ack_most : AckValue → ℕ
ack_most a = 1 + 8 + 8 + 8 + 8 + 16 * (length a.ranges - 1) + 24
