-- The congestion marks of IP packets (RFC 3168, section 5).
use Rattle.std.specs.Prelude.{ℕ, ◌%◌, ◌==◌, Option, Some, None, if◌then◌else◌}
use Rattle.quic_wire_core.specs.declared.shared.EcnCodepoint.{EcnCodepoint}
use Rattle.quic_wire_core.specs.declared.shared.EcnCodepoint.TheVariants.{Ect0, Ect1, Ce}

-- The codepoint that the two low bits of the traffic class name, and none where these are 00 (RFC
-- 3168, section 5, figure 1).
abbrev pub ecn_of : ℕ → Option EcnCodepoint
ecn_of x =
    if x % 4 == 2 then Some Ect0
    else (if x % 4 == 1 then Some Ect1
    else (if x % 4 == 3 then Some Ce
    else None))
