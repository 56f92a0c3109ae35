-- Congestion control at an end (RFC 9002, section 7): what is in flight, what window and pacer hold
-- back, and what the controller is told.
use Rattle.std.specs.Prelude.{ℕ, ◌+◌, ◌*◌, max, Bool, true, false, ◌&&◌, ◌==◌, nat_le, nat_lt, if◌then◌else◌, List, [], ◌∷◌, ◌++◌, sum_by, Option, Some, None}
use Rattle.std.specs.List.{filter}
use Rattle.std.specs.Option.{is_none}
use Rattle.quic_time.specs.Clocks.{saturated}
use Rattle.quic_time.specs.Rtt.{best_rtt}
use Rattle.quic_congestion.specs.Congestion.{Told, Sent, Acked, AcksEnded}
use Rattle.quic_congestion.specs.Pacer.{Pacing, after_datagram, after_delay, delay_of}
use Rattle.quic_streams_parts.specs.Table.{Table}
use Rattle.quic_machine.specs.Tracking.{TrackedPacket}
use Rattle.quic_machine.specs.Parts.{current_mtu}
use Rattle.quic_machine.specs.End.{End, probe_timeout}

-- ---- what is in flight (section 2)

-- whether a tracked packet is in flight on the path of a generation: it asks for an
-- acknowledgement, and went there
abbrev pub flies : ℕ → ℕ × TrackedPacket → Bool
flies generation p = p.1.asks && (p.1.generation == generation)

-- those of tracked packets
abbrev pub flying : ℕ → Table TrackedPacket → Table TrackedPacket
flying generation packets = filter (flies generation) packets

-- the bytes in flight
abbrev pub bytes_in_flight : End → ℕ
bytes_in_flight e = sum_by (λ p. p.1.size) (flying e.path.generation e.tracking.packets)

-- ---- what is held back

-- whether the window has no room for one more datagram
abbrev pub is_window_full : End → Bool
is_window_full e = nat_le e.path.window (bytes_in_flight e + current_mtu e.path)

-- the round trip over which sending is spread
abbrev pub paced_rtt : End → ℕ
paced_rtt e = max (best_rtt e.path.rtt) 1

-- the pacer, asked at the moment of the end whether one more datagram may go: the moment until
-- which it has to wait, if it has to (section 7.7)
abbrev pub pacer_answer : End → Option ℕ
pacer_answer e = delay_of e.path.pacing (paced_rtt e) (current_mtu e.path) (current_mtu e.path) e.path.window e.closing.clock

-- a moment counts that lies behind another
abbrev pub if_later : ℕ → Option ℕ → Option ℕ
if_later now None = None
if_later now (Some moment) = if nat_lt now moment then Some moment else None

-- the moment that the pacer names, if it holds back
abbrev pub paced_until : End → Option ℕ
paced_until e = if_later e.closing.clock (pacer_answer e)

-- the end with another pacer
abbrev pub with_pacing : End → Pacing → End
with_pacing e pacing = record e { path = record e.path { pacing = pacing } }

-- the end after its pacer was asked
abbrev pub pacer_asked : End → End
pacer_asked e = with_pacing e (after_delay e.path.pacing (paced_rtt e) (current_mtu e.path) (current_mtu e.path) e.path.window e.closing.clock)

-- the end after a datagram of so many bytes took its tokens
abbrev pub paid : End → ℕ → End
paid e size = with_pacing e (after_datagram e.path.pacing size)

-- the end with the timer of its pacer set or stopped
abbrev pub with_pacing_timer : End → Option ℕ → End
with_pacing_timer e moment = record e { timers = record e.timers { pacing = moment } }

-- the end whose last poll gave nothing for want of anything to send, or did not
abbrev pub with_app_limited : End → Bool → End
with_app_limited e limited = record e { path = record e.path { app_limited = limited } }

-- whether window and pacer hold back what asks, and the end that is left
pub record Gated : Type 0 where
  pub held : Bool
  pub end : End

-- it goes
abbrev pub lets : End → Gated
lets e = record { held = false; end = e }

-- it waits
abbrev pub holds : End → Gated
holds e = record { held = true; end = e }

-- the pacer names a later moment, to which its timer is set, or doesn't
abbrev pub by_pacer : Option ℕ → End → Gated
by_pacer None e = lets e
by_pacer (Some moment) e = holds (with_pacing_timer e (Some moment))

-- the window is full, or else the pacer is asked
abbrev pub by_window : Bool → End → Gated
by_window true e = holds e
by_window false e = by_pacer (paced_until e) (pacer_asked e)

-- window and pacer are asked, or needn't be
abbrev pub gated_if : Bool → End → Gated
gated_if true e = by_window (is_window_full e) e
gated_if false e = lets e

-- ---- a controller, and what it is told

-- a controller as an end sees it: which window it shows once it was told these, the first of them
-- first
abbrev pub Control : Type 0
Control = List Told → ℕ

-- it is told these
abbrev pub after_told : Control → List Told → Control
after_told control told = λ (more : List Told). control (told ++ more)

-- a datagram of so many bytes went under a number, which counts where it asks
abbrev pub told_sent : Bool → End → ℕ → ℕ → List Told
told_sent true e size number = Sent e.closing.clock size number ∷ []
told_sent false e size number = []

-- a packet is acknowledged, which counts where it asks, unless the peer has a challenge to answer
abbrev pub told_packet : End → ℕ × TrackedPacket → List Told
told_packet e p = if p.1.asks && is_none e.validation.challenge then Acked e.closing.clock p.1.time_sent p.1.size e.path.app_limited e.path.rtt ∷ [] else []

-- those that an ACK frame names are acknowledged
abbrev pub told_acks_ended : End → List Told
told_acks_ended e = AcksEnded e.closing.clock (saturated (bytes_in_flight e)) e.path.app_limited e.numbers.largest_acked ∷ []

-- how far apart packets have to be that show persistent congestion when they are lost (section
-- 7.6.1)
abbrev pub persistent_period : End → ℕ
persistent_period e = saturated (e.transport.persistent_congestion_threshold * probe_timeout e)

-- when the last of packets went
abbrev pub last_sent : Table TrackedPacket → ℕ
last_sent [] = 0
last_sent (p ∷ []) = p.1.time_sent
last_sent (p ∷ q ∷ ps) = last_sent (q ∷ ps)
