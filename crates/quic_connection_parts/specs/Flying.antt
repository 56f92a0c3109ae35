-- What is in flight on a path, of the packets that are tracked (RFC 9002, section 2).
use Rattle.std.specs.Prelude.{◌≡◌, ℕ, ◌-◌, ◌≤◌, ◌<◌, ◌^◌, Bool, true, ◌&&◌, ◌==◌, if◌then◌else◌, List, map, All, Option, Some, None}
use Rattle.quic_paths.specs.InFlight.{Flight, Packet, flight_of, flight_with, flight_without}
use Rattle.quic_streams_parts.specs.Table.{Table}
use Rattle.quic_machine.specs.Tracking.{TrackedPacket}
use Rattle.quic_machine.specs.Control.{flying}

-- whether a packet is in flight on the path of a generation, whatever number it has
abbrev pub is_flying : ℕ → TrackedPacket → Bool
is_flying generation p = p.asks && (p.generation == generation)

-- what is in flight there without a packet, if that was
abbrev pub flight_left : ℕ → Flight → TrackedPacket → Flight
flight_left generation f p = if is_flying generation p then flight_without f p.size true else f

-- the same of a packet that there may be
abbrev pub flight_left_any : ℕ → Flight → Option TrackedPacket → Flight
flight_left_any generation f None = f
flight_left_any generation f (Some p) = flight_left generation f p

-- with a packet more, if it asks for an acknowledgement
abbrev pub flight_joined : Flight → ℕ → Bool → Flight
flight_joined f size asks = if asks then flight_with f size true else f

-- a tracked packet by its size, and whether it asks for an acknowledgement
abbrev pub packet_in_flight : ℕ × TrackedPacket → Packet
packet_in_flight p = record { size = p.1.size; asks = p.1.asks }

-- those in flight on the path of a generation
abbrev pub flying_packets : ℕ → Table TrackedPacket → List Packet
flying_packets generation packets = map packet_in_flight (flying generation packets)

-- what is left of a flight without another
abbrev pub less : Flight → Flight → Flight
less f g = record { bytes = f.bytes - g.bytes; asking = f.asking - g.asking }

-- a flight has all that another has
pub record HasAll (f g : Flight) : Type 0 where
  pub bytes : g.bytes ≤ f.bytes
  pub asking : g.asking ≤ f.asking

-- what is in flight on the path of a generation is what is tracked, asks, and went there; it lies
-- below the number that is next, sizes have 16 bits, and none went on a later path
pub record IsInFlight (generation next : ℕ) (packets : Table TrackedPacket) (flight : Flight) : Type 0 where
  pub sums : flight ≡ flight_of (flying_packets generation packets)
  pub below : All (λ p. p.0 < next) packets
  pub sized : All (λ p. p.1.size < 2 ^ 16) packets
  pub aged : All (λ p. p.1.generation ≤ generation) packets
