-- A datagram that was opened, as it is shown.
use Rattle.std.specs.Prelude.{ℕ, List, Option, Some, None}
use Rattle.quic_run_core.specs.declared.show.Shown.{Shown}

-- its number and its payload, if it opened
abbrev pub parts_in : Option Shown → Option (ℕ × List ℕ)
parts_in None = None
parts_in (Some shown) = Some (shown.number, shown.payload.items)
