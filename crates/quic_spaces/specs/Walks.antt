-- Going over tracked packets by number, from one up to another.
use Rattle.std.specs.Prelude.{◌≡◌, ℕ, ◌+◌, ◌≤◌, ◌<◌, nat_lt, ◌∷◌, map, filter, Option, Some, None}
use Rattle.quic_time.specs.Clocks.{saturated}
use Rattle.quic_streams_parts.specs.Table.{Table, at}
use Rattle.quic_sent_packets.specs.Packets.{TrackedPacket, from}
use Rattle.quic_spaces.specs.Loss.{lesser, least_of, overdue}

-- the packet of this number is the first at or above one, and lies below another
pub record StepsTo (low high : ℕ) (packets : Table TrackedPacket) (number : ℕ) : Type 0 where
  pub packet : TrackedPacket
  pub first : from low packets ≡ (number, packet) ∷ from (number + 1) packets
  pub there : at packets number ≡ Some packet
  pub above : low ≤ number
  pub below : number < high

-- the packets below a number
abbrev pub up_to : ℕ → Table TrackedPacket → Table TrackedPacket
up_to high packets = filter (λ p. nat_lt p.0 high) packets

-- the lesser of two moments, where there are any
abbrev pub lesser_of : Option ℕ → Option ℕ → Option ℕ
lesser_of None other = other
lesser_of (Some n) other = Some (lesser n other)

-- when the first of the packets at or above a number counts as lost by time
abbrev pub loss_time_from : ℕ → ℕ → ℕ → Table TrackedPacket → Option ℕ
loss_time_from low greatest delay packets = least_of (map (λ p. saturated (p.1.time_sent + delay)) (overdue greatest (from low packets)))
