-- What has to be sent again, kept only where there is something.
use Rattle.std.specs.Prelude.{ℕ, Bool, true, Option, Some, None}
use Rattle.quic_retransmits.specs.declared.retransmits.ControlKind.{ControlKind}
use Rattle.quic_retransmits.specs.Retransmits.{Retransmits, nothing_waits, is_empty_where}

-- what is kept once it was made
abbrev pub made : Option Retransmits → Retransmits
made None = nothing_waits
made (Some r) = r

-- whether nothing that may go is kept
abbrev pub is_none_where : (ControlKind → Bool) → (ControlKind → ℕ → Bool) → Option Retransmits → Bool
is_none_where gate gate_on None = true
is_none_where gate gate_on (Some r) = is_empty_where gate gate_on r
