-- Counting congestion marks (RFC 9000, section 19.3.2).
use Rattle.std.specs.Prelude.{ℕ, ◌+◌, ◌-◌, ◌^◌, min}
use Rattle.quic_wire_core.specs.declared.shared.EcnCodepoint.{EcnCodepoint}
use Rattle.quic_wire_core.specs.declared.shared.EcnCodepoint.TheVariants.{Ect0, Ect1, Ce}

-- One more, up to the greatest number that has a form as a variable-length integer (section 16).
abbrev pub one_more : ℕ → ℕ
one_more n = min (n + 1) (2 ^ 62 - 1)

-- The counts of ECT(0), ECT(1) and ECN-CE with one more packet of this mark.
abbrev pub with_mark : ℕ × ℕ × ℕ → EcnCodepoint → ℕ × ℕ × ℕ
with_mark e Ect0 = (one_more e.0, e.1, e.2)
with_mark e Ect1 = (e.0, one_more e.1, e.2)
with_mark e Ce = (e.0, e.1, one_more e.2)
