-- How an end asks its peer to acknowledge more or less often, and is asked (the ACK frequency
-- extension). Delays are in nanoseconds; frames and parameters have microseconds.
use Rattle.std.specs.Prelude.{ℕ, ◌-◌, ◌*◌, ◌^◌, ◌==◌, ◌||◌, Bool, cond, false, true, ltb, leb, max, min, Option, Some, None, unwrap_or, Result, Ok, Err}
use Rattle.std.specs.Int.{abs_diff}
use Rattle.quic_wire_core.specs.TransportError.{ErrorValue, plain_error, protocol_violation}
use Rattle.quic_parameters.specs.Parameters.{ParameterValues}
use Rattle.quic_wire.specs.declared.frame.AckFrequency.{AckFrequency}
use Rattle.quic_recovery_core.specs.declared.ack_frequency.Request.{Request}
use Rattle.quic_config.specs.Configs.{FrequencySettings}
use Rattle.quic_time.specs.Clocks.{granularity}

-- the request in flight, by its packet and the delay that it asks for; the number of the next
-- frame; the delay that the peer keeps to, as far as this end knows; the greatest number of a frame
-- of the peer; and the delay that this end keeps to
pub record Frequency : Type 0 where
  pub in_flight : Option Request
  pub next : ℕ
  pub peer_delay : ℕ
  pub last : Option ℕ
  pub own_delay : ℕ

-- so many microseconds, or the longest time that can be said
abbrev pub micros : ℕ → ℕ
micros n = min (n * 1000) (2 ^ 64 - 1)

-- 25 ms: how long an ACK may wait where nothing else was said (RFC 9000, section 18.2,
-- max_ack_delay), and the least that an end asks for of itself on a short path
abbrev pub usual_delay : ℕ
usual_delay = 25000000

-- before anything was asked: the peer keeps to the delay that it announced, and this end to the
-- usual one
abbrev pub initial_frequency : ℕ → Frequency
initial_frequency delay = record { in_flight = None; next = 0; peer_delay = delay; last = None; own_delay = usual_delay }

-- ---- asking

-- the least delay that the peer can be asked for
abbrev pub least_delay : Option ℕ → ℕ
least_delay None = 0
least_delay (Some n) = micros n

-- the delay to ask for: the one that is configured, else the present one, but not above the
-- round-trip time, which counts as 25 ms at least, and not below the least that the peer allows
abbrev pub candidate : Frequency → ℕ → FrequencySettings → ParameterValues → ℕ
candidate f rtt config peer = max (min (unwrap_or config.max_delay f.peer_delay) (max rtt usual_delay)) (least_delay peer.min_ack_delay)

-- the delay that was asked for last, or the present one where the answer is known
abbrev pub asked : Option Request → ℕ → ℕ
asked None present = present
asked (Some r) present = r.delay

-- the longest that the peer may wait by now
abbrev pub longest_delay : Frequency → ℕ
longest_delay f = max f.peer_delay (asked f.in_flight 0)

-- two delays differ by more than a fifth of the second
abbrev pub differs : ℕ → ℕ → Bool
differs desired current = ltb current (5 * abs_diff desired current)

-- whether a frame should go: as the first, or where the delay to ask for differs from the one asked
-- for last
abbrev pub should_ask : Frequency → ℕ → FrequencySettings → ParameterValues → Bool
should_ask f rtt config peer = (f.next == 0) || differs (candidate f rtt config peer) (asked f.in_flight f.peer_delay)

-- once the packet of a request is acknowledged, the peer keeps to its delay
abbrev pub after_acked : Option Request → ℕ → Frequency → Frequency
after_acked None n f = f
after_acked (Some r) n f = cond (r.packet == n) (record f { in_flight = None; peer_delay = r.delay }) f

-- ---- being asked

-- whether a frame is no newer than one that came
abbrev pub is_stale : Option ℕ → ℕ → Bool
is_stale None n = false
is_stale (Some last) n = leb n last

-- whether a frame asks for less than an end can keep to
abbrev pub is_too_short : AckFrequency → Bool
is_too_short a = ltb (micros a.request_max_ack_delay) granularity

-- a newer frame is kept by its number, and its delay too, unless it is too short
abbrev pub after_newer : Frequency → AckFrequency → Frequency
after_newer f a = cond (is_too_short a) (record f { last = Some a.sequence }) (record f { last = Some a.sequence; own_delay = micros a.request_max_ack_delay })

-- after a frame of the peer: one that is old changes nothing
abbrev pub after_received : Frequency → AckFrequency → Frequency
after_received f a = cond (is_stale f.last a.sequence) f (after_newer f a)

-- whether a frame is newer; one with too short a delay breaks the rules
abbrev pub received_answer : Frequency → AckFrequency → Result Bool ErrorValue
received_answer f a = cond (is_stale f.last a.sequence) (Ok false) (cond (is_too_short a) (Err (plain_error protocol_violation)) (Ok true))
