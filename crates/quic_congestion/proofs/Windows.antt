-- How NewReno's window moves.
use Rattle.std.proofs.Common.{◌≡◌, ℕ, ◌+◌, ◌*◌, ◌-◌, ◌<◌, ◌≤◌, ◌^◌, max, min, Bool, true, false, cond, ◌||◌, nat_le, nat_lt, refl, arith}
use Rattle.quic_congestion.specs.NewReno.{Reno, loss_leaves, bytes_sum, is_past, grown, recounted, raised, reno_acked, recovering, collapsed, reno_congested}
use Rattle.quic_congestion.proofs.Fractions.{part_is_less}

-- a packet of the time before recovery began
past_is_true : (m n : ℕ) → m ≤ n → nat_le m n ≡ true
past_is_true m n h = grind arith

pub past_acked : (r : Reno) (sent bytes : ℕ) (app_limited : Bool) → sent ≤ r.recovery → reno_acked r sent bytes app_limited ≡ r
past_acked r sent bytes true h = refl
past_acked r sent bytes false h = let past : is_past r sent ≡ true = past_is_true sent r.recovery h in rw past refl

pub past_lost : (r : Reno) (now sent : ℕ) (persistent : Bool) → sent ≤ r.recovery → reno_congested r now sent persistent ≡ r
past_lost r now sent persistent h = let past : is_past r sent ≡ true = past_is_true sent r.recovery h in rw past refl

-- after a loss recovery began as it was noticed
recovery_is : (r : Reno) (now sent : ℕ) (persistent : Bool) → r.recovery < sent → (reno_congested r now sent persistent).recovery ≡ now
recovery_is r now sent persistent h = let later : is_past r sent ≡ false = grind arith in go persistent later
  where
    go : (p : Bool) → is_past r sent ≡ false → (reno_congested r now sent p).recovery ≡ now
    go true e = rw e refl
    go false e = rw e refl

pub falls_once : (r : Reno) (now sent later other : ℕ) (persistent again : Bool) → r.recovery < sent → other ≤ now → reno_congested (reno_congested r now sent persistent) later other again ≡ reno_congested r now sent persistent
falls_once r now sent later other persistent again h k =
    let begins : (reno_congested r now sent persistent).recovery ≡ now = recovery_is r now sent persistent h in
    past_lost (reno_congested r now sent persistent) later other again (rw begins k)

-- a window that is no less
no_less : (b : Bool) (low : ℕ) (x y : Reno) → low ≤ x.window → low ≤ y.window → low ≤ (cond b x y).window
no_less true low x y h k = h
no_less false low x y h k = k

sum_least : (w b : ℕ) → w < 2 ^ 64 → w ≤ min (w + b) (2 ^ 64 - 1)
sum_least w b h = omega arith

same_within : (w : ℕ) → w ≤ w
same_within w = omega arith

pub acked_least : (r : Reno) (sent bytes : ℕ) (app_limited : Bool) → r.window < 2 ^ 64 → r.window ≤ (reno_acked r sent bytes app_limited).window
acked_least r sent bytes app_limited h =
    let full = bytes_sum r.counted bytes in
    no_less (app_limited || is_past r sent) r.window r (raised r bytes)
    (same_within r.window)
    (no_less (nat_lt r.window r.threshold) r.window (grown r (bytes_sum r.window bytes)) (recounted r full)
    (sum_least r.window bytes h)
    (no_less (nat_le r.window full) r.window (record r { counted = full - r.window; window = bytes_sum r.window r.size }) (record r { counted = full })
    (sum_least r.window r.size h)
    (same_within r.window)))

-- a window that is no greater
no_greater : (b : Bool) (high : ℕ) (x y : Reno) → x.window ≤ high → y.window ≤ high → (cond b x y).window ≤ high
no_greater true high x y h k = h
no_greater false high x y h k = k

sum_most : (w b most : ℕ) → b ≤ most → min (w + b) (2 ^ 64 - 1) ≤ w + most
sum_most w b most k = omega arith

pub acked_most : (r : Reno) (sent bytes : ℕ) (app_limited : Bool) → (reno_acked r sent bytes app_limited).window ≤ r.window + max bytes r.size
acked_most r sent bytes app_limited =
    let high = r.window + max bytes r.size in
    let full = bytes_sum r.counted bytes in
    let stays : r.window ≤ r.window + max bytes r.size = omega arith in
    let by_bytes : bytes ≤ max bytes r.size = omega arith in
    let by_size : r.size ≤ max bytes r.size = omega arith in
    no_greater (app_limited || is_past r sent) high r (raised r bytes)
    stays
    (no_greater (nat_lt r.window r.threshold) high (grown r (bytes_sum r.window bytes)) (recounted r full)
    (sum_most r.window bytes (max bytes r.size) by_bytes)
    (no_greater (nat_le r.window full) high (record r { counted = full - r.window; window = bytes_sum r.window r.size }) (record r { counted = full })
    (sum_most r.window r.size (max bytes r.size) by_size)
    stays))

max_within : (a b w : ℕ) → a ≤ w → b ≤ w → max a b ≤ w
max_within a b w h k = omega arith

pub lost_most : (r : Reno) (now sent : ℕ) (persistent : Bool) → r.settings.numerator ≤ r.settings.denominator → 2 * r.size ≤ r.window → (reno_congested r now sent persistent).window ≤ r.window
lost_most r now sent persistent part room =
    let left : loss_leaves r.settings r.window ≤ r.window = part_is_less r.window r.settings.numerator r.settings.denominator part in
    no_greater (is_past r sent) r.window r (cond persistent (collapsed (recovering r now)) (recovering r now))
    (same_within r.window)
    (no_greater persistent r.window (collapsed (recovering r now)) (recovering r now) room (max_within (loss_leaves r.settings r.window) (2 * r.size) r.window left room))
