-- The congestion window of an end whose controller is NewReno, as an observer reckons it from what
-- that was told (RFC 9002, sections 7.3, 7.6 and 7.8). The rules are the observer's own, and so are
-- their numbers, but for what is configured: the window at the beginning, and what part of one a
-- loss leaves. Windows, thresholds and sizes are in bytes, and moments in nanoseconds.
use Rattle.std.specs.Prelude.{ℕ, suc, ◌+◌, ◌-◌, ◌*◌, ◌/◌, ◌≡◌, min, max, not, ◌&&◌, Bool, nat_le, nat_lt, if◌then◌else◌, [], ◌∷◌, slice_get, Some}
use Rattle.quic_wire_core.specs.declared.stream_id.Side.{Side}
use Rattle.quic_congestion.specs.Congestion as congestion
use Rattle.quic_congestion.specs.NewReno.{RenoSettings, reno_made, window_after}
use Rattle.quic_machine.specs.declared.run.View.{View}
use Rattle.quic_machine.specs.Control.{Control}
use Rattle.quic_machine.specs.Machine.{control_at}
use Rattle.quic_headline.specs.Runs.{Run, AreServed}
use Rattle.quic_headline.specs.Observer.{latest}
use Rattle.quic_headline.specs.Polls.{window_in, mtu_in, search_at}
use Rattle.quic_headline.specs.Telling.{Tellings, MayTell}

-- What is known of a congestion window: how many bytes it has; below how many it grows by each byte
-- that is acknowledged (slow start, section 7.3.1); when the last recovery period began (section
-- 7.3.2); how many acknowledged bytes count towards its next growth above that (congestion
-- avoidance, section 7.3.3); and how many bytes datagrams have.
pub record Window : Type 0 where
  pub bytes : ℕ
  pub threshold : ℕ
  pub recovery : ℕ
  pub counted : ℕ
  pub size : ℕ

-- a new one: it is below the threshold, whatever it grows to, and what went before it was made
-- changes nothing
abbrev pub first_window : (initial now size : ℕ) → Window
first_window initial now size = record {
  bytes = initial;
  threshold = latest;
  recovery = now;
  counted = 0;
  size = size;
}

-- it grows by bytes that are acknowledged, and those above the threshold count towards its growth
-- there
abbrev pub grown_by : Window → ℕ → Window
grown_by w bytes =
    let more = min (w.bytes + bytes) latest in
    record w { bytes = more; counted = if nat_le w.threshold more then more - w.threshold else w.counted }

-- it grows by one datagram each time that as many bytes as it has were acknowledged
abbrev pub grown_slowly : Window → ℕ → Window
grown_slowly w bytes =
    let counted = min (w.counted + bytes) latest in
    if nat_le w.bytes counted then record w { bytes = min (w.bytes + w.size) latest; counted = counted - w.bytes } else record w { counted = counted }

-- bytes of a datagram are acknowledged that went at a moment, where the end had no more to send, or
-- had: they count where it went since the last recovery period began, and the end had more to send
-- (sections 7.3.2 and 7.8)
abbrev pub window_acked : (sent bytes : ℕ) → Bool → Window → Window
window_acked sent bytes limited w =
    if nat_lt w.recovery sent && not limited then (if nat_lt w.bytes w.threshold then grown_by w bytes else grown_slowly w bytes) else w

-- what a loss leaves: that part, but two datagrams at least (section 7.2)
abbrev pub left_of : ℕ × ℕ → Window → ℕ
left_of part w = max (w.bytes * part.0 / part.1) (2 * w.size)

-- A datagram that went at a moment is lost, or congestion is told of it, where that persists or
-- doesn't: if it went since the last recovery period began, the next one does (section 7.3.2), and
-- two datagrams are left where congestion persists (section 7.6.2).
abbrev pub window_lost : ℕ × ℕ → (now sent : ℕ) → Bool → Window → Window
window_lost part now sent persists w =
    if nat_lt w.recovery sent then record w { bytes = if persists then 2 * w.size else left_of part w; threshold = left_of part w; recovery = now } else w

-- what becomes of it by one thing that the controller is told: datagrams of another size have room
-- for two of them
abbrev pub window_told : ℕ × ℕ → congestion.Told → Window → Window
window_told part (congestion.Acked now sent bytes limited rtt) w = window_acked sent bytes limited w
window_told part (congestion.Congested now sent persists lost) w = window_lost part now sent persists w
window_told part (congestion.Resized size) w = record w { size = size; bytes = max w.bytes (2 * size) }
window_told part other w = w

-- by one thing behind another
abbrev pub window_behind : ℕ × ℕ → Tellings → Window → Window
window_behind part [] w = w
window_behind part (t ∷ ts) w = window_behind part ts (window_told part t w)

-- a controller is NewReno with these settings, made at a moment for datagrams of a size: it shows
-- the window that this does, whatever it is told
abbrev pub IsReno : Control → RenoSettings → (now size : ℕ) → Type 0
IsReno control s now size = (told : Tellings) → control told ≡ window_after (reno_made s now size) told

-- Where the controller of an end is so as the run begins, the window that a view shows is the one
-- that is reckoned from what the lists say that it may have been told, of which the last size is
-- the one that the view shows.
abbrev pub RenoWindows : Run → Type 0
RenoWindows r = (side : Side) (s : RenoSettings) (now size : ℕ) → IsReno (control_at side r.start) s now size → (i : ℕ) (v : View) → AreServed r (suc i) → slice_get r.views i ≡ Some v
    → (told : Tellings) × MayTell r side (suc i) told × (window_in v side ≡ (window_behind (s.numerator, s.denominator) told (first_window s.initial now size)).bytes) × (mtu_in v side ≡ congestion.last_size (search_at side r.start).size told)
