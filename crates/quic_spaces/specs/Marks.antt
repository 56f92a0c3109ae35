-- The marks of congestion (RFC 9000, section 13.4). Counts are how many packets came with ECT(0),
-- with ECT(1) and with CE.
use Rattle.std.specs.Prelude.{ℕ, ◌+◌, ◌-◌, Bool, true, false, not, ◌==◌, ◌&&◌, ◌||◌, nat_lt, if◌then◌else◌, Option, Some, None, Result, Ok, Err}
use Rattle.quic_wire_core.specs.declared.shared.EcnCodepoint.{EcnCodepoint}
use Rattle.quic_wire_core.specs.declared.shared.EcnCodepoint.TheVariants.{Ect0, Ect1, Ce}
use Rattle.quic_wire.specs.AckCounts.{with_mark}
use Rattle.quic_spaces.specs.declared.space.EcnError.{EcnError}
use Rattle.quic_spaces.specs.declared.space.EcnError.TheVariants as errors

-- counts
abbrev pub Counts : Type 0
Counts = ℕ × ℕ × ℕ

-- no packet came with a mark
abbrev pub none_marked : Counts
none_marked = (0, 0, 0)

-- ---- marks that came

-- one packet more came, with this mark or with none
abbrev pub after_mark : Option EcnCodepoint → Counts → Counts
after_mark None counts = counts
after_mark (Some mark) counts = with_mark counts mark

-- the counts that an ACK frame tells: none before a packet came with a mark (section 13.4.1)
abbrev pub told_counts : Counts → Option Counts
told_counts counts = if counts.0 == 0 && counts.1 == 0 && counts.2 == 0 then None else Some counts

-- whether a packet came with CE: a router on the path had too much to carry
abbrev pub is_congested : Option EcnCodepoint → Bool
is_congested None = false
is_congested (Some Ect0) = false
is_congested (Some Ect1) = false
is_congested (Some Ce) = true

-- ---- marks that the peer counted (section 13.4.2.1)

-- what is wrong with counts that came with so many packets newly acknowledged, if anything is: one
-- fell, ECT(0), ECT(1) or CE; they grew by less than the packets; those of ECT(0) and CE did, or
-- that of ECT(1) grew, with which nothing is marked
abbrev pub marks_refused : ℕ → Counts → Counts → Option EcnError
marks_refused newly last counts =
    if nat_lt counts.0 last.0 then Some errors.Ect0Regression
    else (if nat_lt counts.1 last.1 then Some errors.Ect1Regression
    else (if nat_lt counts.2 last.2 then Some errors.CeRegression
    else (if nat_lt ((counts.0 - last.0) + (counts.1 - last.1) + (counts.2 - last.2)) newly then Some errors.Bleaching
    else (if nat_lt ((counts.0 - last.0) + (counts.2 - last.2)) newly || nat_lt last.1 counts.1 then Some errors.Corruption
    else None))))

-- what judging them answers: whether that of CE grew
abbrev pub marks_judged : Option EcnError → Counts → Counts → Result Bool EcnError
marks_judged None last counts = Ok (nat_lt last.2 counts.2)
marks_judged (Some error) last counts = Err error
