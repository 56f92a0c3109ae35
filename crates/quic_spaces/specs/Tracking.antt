-- What a packet number space tracks of what was sent (RFC 9002, sections 2, 6.2 and A.1).
use Rattle.std.specs.Prelude.{ℕ, ◌+◌, ◌-◌, ◌^◌, min, Bool, true, false, not, nat_lt, nat_le, ◌&&◌, if◌then◌else◌, [], length, filter, Option, Some, None}
use Rattle.std.specs.List.{list_any}
use Rattle.quic_wire.specs.Value.{AckValue}
use Rattle.quic_streams_parts.specs.Table.{Table, added, without}
pub use Rattle.quic_sent_packets.specs.Packets.{Carried, TrackedPacket, asks_any, has_in_flight, oldest, without_record}

-- the packets that were sent and are neither acknowledged, lost nor forgotten, by number; the
-- greatest number that was sent and asks; when the last that asks went (or the space was made);
-- when one that lies below the greatest acknowledged counts as lost by time, if one may; how often
-- the loss timer expired since an acknowledgement came; and how many probes wait
pub record Tracking : Type 0 where
  pub packets : Table TrackedPacket
  pub greatest_asking : Option ℕ
  pub last_asking : ℕ
  pub loss_time : Option ℕ
  pub timeouts : ℕ
  pub probes : ℕ

-- nothing was sent since a moment
abbrev pub nothing_tracked : ℕ → Tracking
nothing_tracked now = record { packets = []; greatest_asking = None; last_asking = now; loss_time = None; timeouts = 0; probes = 0 }

-- ---- the tail: what was sent since a packet asked

-- whether a number lies above the greatest that asks
abbrev pub is_behind : Option ℕ → ℕ → Bool
is_behind None n = true
is_behind (Some greatest) n = nat_lt greatest n

-- the tracked packets above the last that asks: nothing promises that they are ever acknowledged
abbrev pub tail_of : Tracking → Table TrackedPacket
tail_of t = filter (λ p. is_behind t.greatest_asking p.0) t.packets

-- with more of them than this, one that comes and doesn't ask lets the oldest go
abbrev pub most_tail : ℕ
most_tail = 1000

-- whether a packet makes the oldest of the tail be forgotten
abbrev pub forgets : Tracking → TrackedPacket → Bool
forgets t p = not p.asks && nat_lt most_tail (length (tail_of t))

-- the packet that is forgotten where this one is sent
abbrev pub forgotten : Tracking → TrackedPacket → Option (ℕ × TrackedPacket)
forgotten t p = if forgets t p then oldest (tail_of t) else None

-- the packets without one, if there is one
abbrev pub without_packet : Option (ℕ × TrackedPacket) → Table TrackedPacket → Table TrackedPacket
without_packet None packets = packets
without_packet (Some p) packets = without packets p.0

-- ---- a packet goes

-- a packet that asks goes: it takes away a probe that waits
abbrev pub asking_sent : Bool → ℕ → ℕ → Tracking → Tracking
asking_sent true number now t = record t { greatest_asking = Some number; last_asking = now; probes = t.probes - 1 }
asking_sent false number now t = t

-- a packet of this number goes
abbrev pub after_sent : Tracking → ℕ → TrackedPacket → Tracking
after_sent t number p = asking_sent p.asks number p.time_sent (record t { packets = added (without_packet (forgotten t p) t.packets) number p })

-- ---- the loss timer expires, and an acknowledgement comes

-- so many more, as far as a counter goes
abbrev pub counted : ℕ → ℕ → ℕ
counted n more = min (n + more) (2 ^ 64 - 1)

-- the loss timer expired, and no packet was to be judged by time: two probes wait (RFC 9002,
-- section 6.2.4)
abbrev pub after_loss_timeout : Tracking → Tracking
after_loss_timeout t = record t { timeouts = counted t.timeouts 1; probes = counted t.probes 2 }

-- the peer answers: no probe has to go
abbrev pub after_answered : Tracking → Tracking
after_answered t = record t { timeouts = 0; probes = 0 }

-- ---- an ACK frame (RFC 9000, section 13.1)

-- whether an ACK frame names a number
abbrev pub names : AckValue → ℕ → Bool
names a n = list_any (λ r. nat_le r.0 n && nat_le n r.1) a.ranges

-- the tracked packets that an ACK frame names, ascending
abbrev pub acked_by : AckValue → Table TrackedPacket → Table TrackedPacket
acked_by a packets = filter (λ p. names a p.0) packets

-- the others
abbrev pub not_acked_by : AckValue → Table TrackedPacket → Table TrackedPacket
not_acked_by a packets = filter (λ p. not (names a p.0)) packets
