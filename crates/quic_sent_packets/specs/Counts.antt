-- How many packets ask for an acknowledgement, and how many count against the congestion window
-- (RFC 9002, section 2).
use Rattle.std.specs.Prelude.{◌≡◌, ℕ, Bool, nat_lt, cond, Option}
use Rattle.std.specs.Option.{unwrap_or, option_map}
use Rattle.std.specs.List.{count_by}
use Rattle.std.specs.Map.{values_of}
use Rattle.quic_streams_parts.specs.Table.{Table}
use Rattle.quic_sent_packets.specs.Packets.{TrackedPacket, Ascends}
use Rattle.quic_sent_packets.specs.declared.counts.Counts.{Counts}

-- whether a packet counts against the congestion window
abbrev pub counts_against : TrackedPacket → Bool
counts_against p = nat_lt 0 p.size

-- one where this holds, else none
abbrev pub one_if : Bool → ℕ
one_if b = cond b 1 0

-- how many of one packet at most pass a test
abbrev pub of_one : (TrackedPacket → Bool) → Option TrackedPacket → ℕ
of_one test packet = unwrap_or (option_map (λ p. one_if (test p)) packet) 0

-- how many of some packets pass a test
abbrev pub how_many : (TrackedPacket → Bool) → Table TrackedPacket → ℕ
how_many test packets = count_by test (values_of packets)

-- the counts of one packet
abbrev pub counts_of : TrackedPacket → Counts
counts_of p = record { asking = one_if p.asks; in_flight = one_if (counts_against p) }

-- both counts are those of these packets, whose numbers ascend
pub record Counted (counts : Counts) (packets : Table TrackedPacket) : Type 0 where
  pub ascends : Ascends packets
  pub asking : counts.asking ≡ how_many (λ p. p.asks) packets
  pub in_flight : counts.in_flight ≡ how_many counts_against packets
