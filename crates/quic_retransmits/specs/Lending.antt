-- References to what is kept, and what is kept once they end.
use Rattle.std.specs.Prelude.{Option, Some, Result}
use Rattle.std.specs.declared.alloc.AllocError.{AllocError}
use Rattle.std.specs.Borrow.{LendsIf, LendsIfOk, MutBor, Fml}
use Rattle.quic_retransmits.specs.Retransmits.{Retransmits}
use Rattle.quic_retransmits.specs.contracts.thin_retransmits.ThinRetransmits.{the_row as thin_row}
use Rattle.quic_retransmits.specs.contracts.retransmits.Retransmits.{the_row as retransmits_row}

-- s ends with the last value behind r
abbrev pub LendsKept : MutBor (Option Retransmits) → Option (MutBor Retransmits) → Fml
LendsKept s r = LendsIf thin_row retransmits_row s r (λ w. Some w) s.now

-- s ends with the last value behind r, unless memory lacked for it
abbrev pub LendsMade : MutBor (Option Retransmits) → Result (MutBor Retransmits) AllocError → Fml
LendsMade s r = LendsIfOk thin_row retransmits_row s r (λ w. Some w) s.now
