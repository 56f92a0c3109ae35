-- Packets that were sent and are neither acknowledged nor lost, by number (RFC 9002, sections 2 and
-- A.1.1).
use Rattle.std.specs.Prelude.{ℕ, Bool, ◌&&◌, nat_lt, nat_le, List, [], ◌∷◌, filter, Option, Some, None}
use Rattle.std.specs.List.{list_any}
use Rattle.std.specs.List.Sorted.{IsStrictlySortedBy}
use Rattle.std.specs.Map.{keys_of}
use Rattle.std.specs.Ordering.{nat_cmp}
use Rattle.quic_send_buffer.specs.declared.stream_meta.StreamMeta.{StreamMeta}
use Rattle.quic_streams_parts.specs.Table.{Table}
use Rattle.quic_retransmits.specs.Retransmits.{Retransmits, nothing_waits}

-- what a packet carried: the greatest number that its ACK frame named, if it had one, the offsets
-- and ends of its STREAM frames, and what has to be sent again besides if it is lost (RFC 9000,
-- section 13.3)
pub record Carried : Type 0 where
  pub largest_acked : Option ℕ
  pub stream_frames : List StreamMeta
  pub retransmits : Retransmits

-- a packet that was sent: the path generation, when it went, its size in bytes where it counts
-- against the congestion window, else 0, whether it asks for an acknowledgement (is ack-eliciting),
-- and what it carried
pub record TrackedPacket : Type 0 where
  pub generation : ℕ
  pub time_sent : ℕ
  pub size : ℕ
  pub asks : Bool
  pub carried : Carried

-- a packet without what has to be sent again of it
abbrev pub without_record : TrackedPacket → TrackedPacket
without_record p = record p { carried = record p.carried { retransmits = nothing_waits } }

-- the numbers ascend
abbrev pub Ascends : Table TrackedPacket → Type 0
Ascends packets = IsStrictlySortedBy nat_cmp (keys_of packets)

-- whether a packet that asks is tracked
abbrev pub asks_any : Table TrackedPacket → Bool
asks_any packets = list_any (λ p. p.1.asks) packets

-- whether a packet is tracked that counts against the congestion window
abbrev pub has_in_flight : Table TrackedPacket → Bool
has_in_flight packets = list_any (λ p. nat_lt 0 p.1.size) packets

-- ---- by number

-- the first of some packets, and the last
abbrev pub oldest : Table TrackedPacket → Option (ℕ × TrackedPacket)
oldest [] = None
oldest (p ∷ ps) = Some p

-- the last of some packets, of which this one stands before these
abbrev pub newest_behind : ℕ × TrackedPacket → Table TrackedPacket → ℕ × TrackedPacket
newest_behind p [] = p
newest_behind p (q ∷ qs) = newest_behind q qs

-- the last of some packets, if there is one
abbrev pub newest : Table TrackedPacket → Option (ℕ × TrackedPacket)
newest [] = None
newest (p ∷ ps) = Some (newest_behind p ps)

-- the packets at or above a number
abbrev pub from : ℕ → Table TrackedPacket → Table TrackedPacket
from low packets = filter (λ p. nat_le low p.0) packets

-- whether a number lies between two others, both ends too
abbrev pub is_within : ℕ → ℕ → ℕ → Bool
is_within low high n = nat_le low n && nat_le n high

-- the packets whose numbers lie there
abbrev pub within : ℕ → ℕ → Table TrackedPacket → Table TrackedPacket
within low high packets = filter (λ p. is_within low high p.0) packets
