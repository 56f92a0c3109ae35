-- What goes into a datagram, kind by kind: what each kind keeps, all of them keep.
use Rattle.std.proofs.Common.{List, [], ◌∷◌}
use Rattle.std.specs.List.{fold}
use Rattle.quic_machine.specs.Poll.{Draft, Kind, put}

module _ (P : Draft → Type 0) (each : (d : Draft) (kind : Kind) → P d → P (put d kind)) where
  -- several, one behind another
  pub by_kinds : (kinds : List Kind) (d : Draft) → P d → P (fold put d kinds)
  by_kinds [] d p = p
  by_kinds (kind ∷ kinds) d p = by_kinds kinds (put d kind) (each d kind p)
