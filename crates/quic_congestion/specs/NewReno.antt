-- The window of NewReno (RFC 9002, section 7 and appendix B). Windows, thresholds and sizes are in
-- bytes, moments in nanoseconds.
use Rattle.std.specs.Prelude.{ℕ, ◌+◌, ◌-◌, ◌*◌, ◌/◌, ◌^◌, max, min, Bool, ◌||◌, if◌then◌else◌, nat_le, nat_lt, List}
use Rattle.quic_congestion.specs.Congestion.{Told, Steps, after_calls}

-- the window at the beginning, and the part of a window, as a fraction, that a loss leaves
pub record RenoSettings : Type 0 where
  pub initial : ℕ
  pub numerator : ℕ
  pub denominator : ℕ

-- 12000 bytes, and the half
abbrev pub default_reno : RenoSettings
default_reno = record { initial = 12000; numerator = 1; denominator = 2 }

-- what a loss leaves of a window
abbrev pub loss_leaves : RenoSettings → ℕ → ℕ
loss_leaves s window = window * s.numerator / s.denominator

-- the size handed in last, the window, the threshold below which it grows by what is acknowledged,
-- when recovery began, and the acknowledged bytes that count towards the window's next growth above
-- the threshold
pub record Reno : Type 0 where
  pub settings : RenoSettings
  pub size : ℕ
  pub window : ℕ
  pub threshold : ℕ
  pub recovery : ℕ
  pub counted : ℕ

-- made at a moment with a size
abbrev pub reno_made : RenoSettings → ℕ → ℕ → Reno
reno_made settings now size = record {
  settings = settings;
  size = size;
  window = settings.initial;
  threshold = 2 ^ 64 - 1;
  recovery = now;
  counted = 0;
}

-- a sum of bytes, which saturates at 64 bits
abbrev pub bytes_sum : ℕ → ℕ → ℕ
bytes_sum a b = min (a + b) (2 ^ 64 - 1)

-- a packet sent then was sent before recovery began, or as it began
abbrev pub is_past : Reno → ℕ → Bool
is_past r sent = nat_le sent r.recovery

-- the window after bytes are acknowledged below the threshold; what it has above the threshold then
-- counts
abbrev pub grown : Reno → ℕ → Reno
grown r window = record r {
  window = window;
  counted = if nat_le r.threshold window then window - r.threshold else r.counted;
}

-- bytes count above the threshold; once they are a whole window, it grows by one datagram
abbrev pub recounted : Reno → ℕ → Reno
recounted r counted =
    if nat_le r.window counted
    then record r { counted = counted - r.window; window = bytes_sum r.window r.size }
    else record r { counted = counted }

-- after bytes that count are acknowledged
abbrev pub raised : Reno → ℕ → Reno
raised r bytes =
    if nat_lt r.window r.threshold
    then grown r (bytes_sum r.window bytes)
    else recounted r (bytes_sum r.counted bytes)

-- after bytes of a packet are acknowledged
abbrev pub reno_acked : Reno → ℕ → ℕ → Bool → Reno
reno_acked r sent bytes app_limited = if app_limited || is_past r sent then r else raised r bytes

-- the window that a loss leaves, two datagrams at least
abbrev pub reduced : Reno → ℕ
reduced r = max (loss_leaves r.settings r.window) (2 * r.size)

-- recovery begins
abbrev pub recovering : Reno → ℕ → Reno
recovering r now = record r { recovery = now; window = reduced r; threshold = reduced r }

-- the least window
abbrev pub collapsed : Reno → Reno
collapsed r = record r { window = 2 * r.size }

-- after a packet was lost or marked; under persistent congestion the window is the least
abbrev pub reno_congested : Reno → ℕ → ℕ → Bool → Reno
reno_congested r now sent persistent =
    if is_past r sent then r else (if persistent then collapsed (recovering r now) else recovering r now)

-- after a size is handed in
abbrev pub reno_resized : Reno → ℕ → Reno
reno_resized r size = record r { size = size; window = max r.window (2 * size) }

-- after each call
abbrev pub reno_steps : Steps Reno
reno_steps = record {
  sent = λ r now bytes last. r;
  ack = λ r now sent bytes app_limited rtt. reno_acked r sent bytes app_limited;
  end_acks = λ r now in_flight app_limited largest. r;
  congestion_event = λ r now sent persistent lost. reno_congested r now sent persistent;
  mtu_update = reno_resized;
}

-- the window after calls, the first of them first
abbrev pub window_after : Reno → List Told → ℕ
window_after r calls = (after_calls reno_steps r calls).window
