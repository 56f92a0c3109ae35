-- When a datagram came, from where, and how.
use Rattle.std.specs.Prelude.{ℕ, Bool, false, Option}
use Rattle.quic_wire_core.specs.declared.shared.EcnCodepoint.{EcnCodepoint}
use Rattle.quic_machine.specs.declared.run.Delivery.{Delivery}
use Rattle.quic_machine.specs.declared.run.Injection.{Injection}

-- a datagram comes at a moment from an address, with a mark or with none (RFC 9000, section
-- 13.4.1); and whether, where its packet doesn't open, it is the last that may not (RFC 9001,
-- section 6.6)
pub record Arrival : Type 0 where
  pub now : ℕ
  pub remote : ℕ
  pub mark : Option EcnCodepoint
  pub last : Bool

-- one that comes at this moment from this address, with this mark
abbrev pub arriving : ℕ → ℕ → Option EcnCodepoint → Bool → Arrival
arriving moment address codepoint is_last = record { now = moment; remote = address; mark = codepoint; last = is_last }

-- how one comes, but not as the last that may not open
abbrev pub early : Arrival → Arrival
early arrival = record arrival { last = false }

-- how a delivery comes
abbrev pub delivered_by : Bool → Delivery → Arrival
delivered_by is_last delivery = arriving delivery.now delivery.remote delivery.ecn is_last

-- how an injection comes
abbrev pub injected_by : Bool → Injection → Arrival
injected_by is_last injection = arriving injection.now injection.remote injection.ecn is_last
