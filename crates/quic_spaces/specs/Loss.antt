-- Which packets count as lost, and when the loss timer expires (RFC 9002, sections 6.1 and 6.2).
use Rattle.std.specs.Prelude.{ℕ, ◌+◌, ◌-◌, ◌*◌, ◌/◌, ◌^◌, min, max, Bool, true, false, not, nat_lt, nat_le, ◌&&◌, ◌||◌, if◌then◌else◌, List, [], ◌∷◌, map, filter, Option, Some, None}
use Rattle.quic_time.specs.Clocks.{saturated, granularity}
use Rattle.quic_time.specs.Rtt.{Rtt, conservative_rtt}
use Rattle.quic_streams_parts.specs.Table.{Table}
use Rattle.quic_spaces.specs.Tracking.{TrackedPacket, Tracking, asks_any}

-- ---- how late a packet may be

-- how long after it was sent a packet counts as lost once a later one is acknowledged: this part of
-- the greater of the estimate and the latest round trip, and no less than the granularity of clocks
-- (section 6.1.2)
abbrev pub loss_delay : ℕ × ℕ → Rtt → ℕ
loss_delay part rtt = saturated (max (part.0 * conservative_rtt rtt / part.1) granularity)

-- the moment at or before which what was sent counts as lost: so long before now, if there is such
-- a moment
abbrev pub lost_before : ℕ → ℕ → Option ℕ
lost_before delay now = if nat_le delay now then Some (now - delay) else None

-- ---- a verdict

-- the greatest number that was acknowledged, how far below it a packet is lost (section 6.1.1), the
-- moment up to which what was sent is lost, if there is one, and how long after it was sent a
-- packet is
pub record Verdict : Type 0 where
  pub greatest : ℕ
  pub threshold : ℕ
  pub before : Option ℕ
  pub delay : ℕ

-- the verdict at a moment
abbrev pub verdict_at : ℕ → ℕ → ℕ → ℕ → Verdict
verdict_at greatest threshold delay now = record { greatest = greatest; threshold = threshold; before = lost_before delay now; delay = delay }

-- whether a moment lies at another or before it
abbrev pub is_by : Option ℕ → ℕ → Bool
is_by None moment = false
is_by (Some last) moment = nat_le moment last

-- whether a tracked packet is lost: it lies below the greatest acknowledged, and so far below, or
-- it went so long ago
abbrev pub is_lost : Verdict → ℕ × TrackedPacket → Bool
is_lost v p = nat_lt p.0 v.greatest && (nat_le (p.0 + v.threshold) v.greatest || is_by v.before p.1.time_sent)

-- the lost packets, ascending, and those that stay
abbrev pub lost_by : Verdict → Table TrackedPacket → Table TrackedPacket
lost_by v packets = filter (is_lost v) packets

-- the packets that aren't lost, ascending
abbrev pub kept_by : Verdict → Table TrackedPacket → Table TrackedPacket
kept_by v packets = filter (λ p. not (is_lost v p)) packets

-- the least of some numbers, if there is one
abbrev pub lesser : ℕ → Option ℕ → ℕ
lesser n None = n
lesser n (Some k) = min n k

-- the least of some numbers, None where there is none
abbrev pub least_of : List ℕ → Option ℕ
least_of [] = None
least_of (n ∷ ns) = Some (lesser n (least_of ns))

-- those that ask and lie below the greatest acknowledged
abbrev pub overdue : ℕ → Table TrackedPacket → Table TrackedPacket
overdue greatest packets = filter (λ p. nat_lt p.0 greatest && p.1.asks) packets

-- when the first of these counts as lost by time
abbrev pub loss_time_of : Verdict → Table TrackedPacket → Option ℕ
loss_time_of v packets = least_of (map (λ p. saturated (p.1.time_sent + v.delay)) (overdue v.greatest packets))

-- what is tracked once the lost packets are gone
abbrev pub after_detection : Verdict → Tracking → Tracking
after_detection v t = record t { packets = kept_by v t.packets; loss_time = loss_time_of v (kept_by v t.packets) }

-- ---- the loss timer (section 6.2.1)

-- the most doublings of the probe timeout
abbrev pub most_doublings : ℕ
most_doublings = 16

-- the probe timeout, doubled for each expiry since an acknowledgement came
abbrev pub backed_off : ℕ → ℕ → ℕ
backed_off timeout timeouts = saturated (timeout * 2 ^ min timeouts most_doublings)

-- when a probe goes: where a packet that asks is tracked, so long after the last that asks went
abbrev pub probe_moment : Bool → ℕ → Tracking → Option ℕ
probe_moment true timeout t = Some (saturated (t.last_asking + backed_off timeout t.timeouts))
probe_moment false timeout t = None

-- the moment of a loss by time, if there is one, or that of a probe
abbrev pub moment_or : Option ℕ → Option ℕ → Option ℕ
moment_or None other = other
moment_or (Some moment) other = Some moment

-- when the loss timer expires, by the probe timeout and what is tracked
abbrev pub loss_moment : ℕ → Tracking → Option ℕ
loss_moment timeout t = moment_or t.loss_time (probe_moment (asks_any t.packets) timeout t)
