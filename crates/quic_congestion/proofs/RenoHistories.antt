-- How NewReno's window grows over acknowledgements in a row.
use Rattle.std.proofs.Common.{◌≡◌, ℕ, suc, ◌+◌, ◌-◌, ◌*◌, ◌<◌, ◌≤◌, ◌^◌, true, false, List, [], ◌∷◌, ◌++◌, nat_le, nat_lt, refl, sym, ap, ◌∙◌, subst, inl, inr, arith}
use Rattle.std.proofs.lemmas.Bool.{cases_lt}
use Rattle.std.proofs.lemmas.List.Elements.{All-head, All-tail}
use Rattle.std.proofs.Math.Nat.{suc-mul}
use Rattle.quic_congestion.specs.Congestion.{Told, Sent, Acked, AcksEnded, Congested, Resized, after_calls}
use Rattle.quic_congestion.specs.NewReno.{Reno, bytes_sum, is_past, reno_acked, reno_steps, window_after}
use Rattle.quic_congestion.specs.RenoHistory.{Counts, AllCount, bytes_told, acked_bytes, AreWithin, windows_sum}

later_is_false : (m n : ℕ) → n < m → nat_le m n ≡ false
later_is_false m n h = grind arith

less_is_true : (m n : ℕ) → m < n → nat_lt m n ≡ true
less_is_true m n h = grind arith

less_is_false : (m n : ℕ) → n ≤ m → nat_lt m n ≡ false
less_is_false m n h = grind arith

within_is_true : (m n : ℕ) → m ≤ n → nat_le m n ≡ true
within_is_true m n h = grind arith

sum_fits : (m n : ℕ) → m + n < 2 ^ 64 → bytes_sum m n ≡ m + n
sum_fits m n h = omega arith

-- one acknowledgement that leaves the window below the threshold
starts : (r : Reno) (sent bytes : ℕ) → r.recovery < sent → r.window + bytes < r.threshold → r.window + bytes < 2 ^ 64 → reno_acked r sent bytes false ≡ record r { window = r.window + bytes }
starts r sent bytes later below fits =
    let after : is_past r sent ≡ false = later_is_false sent r.recovery later in
    let under : nat_lt r.window r.threshold ≡ true = less_is_true r.window r.threshold (omega arith) in
    let whole : bytes_sum r.window bytes ≡ r.window + bytes = sum_fits r.window bytes fits in
    let short : nat_le r.threshold (r.window + bytes) ≡ false = later_is_false r.threshold (r.window + bytes) below in
    rw after (rw under (rw whole (rw short refl)))

-- one that does not fill a window
counts : (r : Reno) (sent bytes : ℕ) → r.recovery < sent → r.threshold ≤ r.window → r.counted + bytes < r.window → r.counted + bytes < 2 ^ 64 → reno_acked r sent bytes false ≡ record r { counted = r.counted + bytes }
counts r sent bytes later over part fits =
    let after : is_past r sent ≡ false = later_is_false sent r.recovery later in
    let above : nat_lt r.window r.threshold ≡ false = less_is_false r.window r.threshold over in
    let whole : bytes_sum r.counted bytes ≡ r.counted + bytes = sum_fits r.counted bytes fits in
    let short : nat_le r.window (r.counted + bytes) ≡ false = later_is_false r.window (r.counted + bytes) part in
    rw after (rw above (rw whole (rw short refl)))

-- one that fills a window
fills : (r : Reno) (sent bytes : ℕ) → r.recovery < sent → r.threshold ≤ r.window → r.window ≤ r.counted + bytes → r.counted + bytes < 2 ^ 64 → r.window + r.size < 2 ^ 64
    → reno_acked r sent bytes false ≡ record r { counted = r.counted + bytes - r.window; window = r.window + r.size }
fills r sent bytes later over full fits room =
    let after : is_past r sent ≡ false = later_is_false sent r.recovery later in
    let above : nat_lt r.window r.threshold ≡ false = less_is_false r.window r.threshold over in
    let whole : bytes_sum r.counted bytes ≡ r.counted + bytes = sum_fits r.counted bytes fits in
    let long : nat_le r.window (r.counted + bytes) ≡ true = within_is_true r.window (r.counted + bytes) full in
    let more : bytes_sum r.window r.size ≡ r.window + r.size = sum_fits r.window r.size room in
    rw after (rw above (rw whole (rw long (rw more refl))))

-- one that may take the window to the threshold or past it
crosses : (r : Reno) (sent bytes : ℕ) → r.recovery < sent → r.window < r.threshold → r.window + bytes < 2 ^ 64 → (reno_acked r sent bytes false).window ≡ r.window + bytes
crosses r sent bytes later below fits =
    let after : is_past r sent ≡ false = later_is_false sent r.recovery later in
    let under : nat_lt r.window r.threshold ≡ true = less_is_true r.window r.threshold below in
    let whole : bytes_sum r.window bytes ≡ r.window + bytes = sum_fits r.window bytes fits in
    rw after (rw under (rw whole refl))

-- below the threshold the window is the first one and the bytes acknowledged
pub slow_start : (r : Reno) (calls : List Told) → AllCount r calls → r.window + acked_bytes calls < r.threshold → r.window + acked_bytes calls < 2 ^ 64 → window_after r calls ≡ r.window + acked_bytes calls
slow_start r [] all below fits = omega arith
slow_start r (Sent now bytes last ∷ calls) all below fits = absurd (All-head (Counts r.recovery) (Sent now bytes last) calls all)
slow_start r (Acked now sent bytes true rtt ∷ calls) all below fits = absurd (All-head (Counts r.recovery) (Acked now sent bytes true rtt) calls all)
slow_start r (Acked now sent bytes false rtt ∷ calls) all below fits =
    let later : r.recovery < sent = All-head (Counts r.recovery) (Acked now sent bytes false rtt) calls all in
    let rest = All-tail (Counts r.recovery) (Acked now sent bytes false rtt) calls all in
    let next : Reno = record r { window = r.window + bytes } in
    let step : reno_acked r sent bytes false ≡ next = starts r sent bytes later (omega arith) (omega arith) in
    let onward : window_after next calls ≡ r.window + bytes + acked_bytes calls = slow_start next calls rest (omega arith) (omega arith) in
    ap (λ (s : Reno). window_after s calls) step ∙ onward ∙ omega arith
slow_start r (AcksEnded now in_flight app_limited largest ∷ calls) all below fits = absurd (All-head (Counts r.recovery) (AcksEnded now in_flight app_limited largest) calls all)
slow_start r (Congested now sent persistent lost ∷ calls) all below fits = absurd (All-head (Counts r.recovery) (Congested now sent persistent lost) calls all)
slow_start r (Resized size ∷ calls) all below fits = absurd (All-head (Counts r.recovery) (Resized size) calls all)

-- so it is after one acknowledgement more, which may end slow start
pub slow_start_ends : (r : Reno) (calls : List Told) (call : Told) → AllCount r calls → Counts r.recovery call → r.window + acked_bytes calls < r.threshold → r.window + acked_bytes calls + bytes_told call < 2 ^ 64
    → window_after r (calls ++ call ∷ []) ≡ r.window + acked_bytes calls + bytes_told call
slow_start_ends r [] (Sent now bytes last) all counts below fits = absurd counts
slow_start_ends r [] (Acked now sent bytes true rtt) all counts below fits = absurd counts
slow_start_ends r [] (Acked now sent bytes false rtt) all counts below fits = crosses r sent bytes counts (omega arith) (omega arith) ∙ omega arith
slow_start_ends r [] (AcksEnded now in_flight app_limited largest) all counts below fits = absurd counts
slow_start_ends r [] (Congested now sent persistent lost) all counts below fits = absurd counts
slow_start_ends r [] (Resized size) all counts below fits = absurd counts
slow_start_ends r (Sent now bytes last ∷ calls) call all counts below fits = absurd (All-head (Counts r.recovery) (Sent now bytes last) calls all)
slow_start_ends r (Acked now sent bytes true rtt ∷ calls) call all counts below fits = absurd (All-head (Counts r.recovery) (Acked now sent bytes true rtt) calls all)
slow_start_ends r (Acked now sent bytes false rtt ∷ calls) call all counts below fits =
    let later : r.recovery < sent = All-head (Counts r.recovery) (Acked now sent bytes false rtt) calls all in
    let rest = All-tail (Counts r.recovery) (Acked now sent bytes false rtt) calls all in
    let next : Reno = record r { window = r.window + bytes } in
    let step : reno_acked r sent bytes false ≡ next = starts r sent bytes later (omega arith) (omega arith) in
    let onward : window_after next (calls ++ call ∷ []) ≡ r.window + bytes + acked_bytes calls + bytes_told call = slow_start_ends next calls call rest counts (omega arith) (omega arith) in
    ap (λ (s : Reno). window_after s (calls ++ call ∷ [])) step ∙ onward ∙ omega arith
slow_start_ends r (AcksEnded now in_flight app_limited largest ∷ calls) call all counts below fits = absurd (All-head (Counts r.recovery) (AcksEnded now in_flight app_limited largest) calls all)
slow_start_ends r (Congested now sent persistent lost ∷ calls) call all counts below fits = absurd (All-head (Counts r.recovery) (Congested now sent persistent lost) calls all)
slow_start_ends r (Resized size ∷ calls) call all counts below fits = absurd (All-head (Counts r.recovery) (Resized size) calls all)

-- so many windows were filled
abbrev pub Filled : Reno → List Told → Reno → Type 0
Filled r calls after = (k : ℕ) × (after.window ≡ r.window + k * r.size) × (r.counted + acked_bytes calls ≡ after.counted + windows_sum k r.window r.size)

-- at or above the threshold each window of bytes adds a datagram
pub avoidance : (r : Reno) (calls : List Told) → AllCount r calls → r.threshold ≤ r.window → r.size ≤ r.window → r.window + r.counted + acked_bytes calls < 2 ^ 64 → Filled r calls (after_calls reno_steps r calls)
avoidance r [] all over room fits = (0, omega arith, omega arith)
avoidance r (Sent now bytes last ∷ calls) all over room fits = absurd (All-head (Counts r.recovery) (Sent now bytes last) calls all)
avoidance r (Acked now sent bytes true rtt ∷ calls) all over room fits = absurd (All-head (Counts r.recovery) (Acked now sent bytes true rtt) calls all)
avoidance r (Acked now sent bytes false rtt ∷ calls) all over room fits =
    let later : r.recovery < sent = All-head (Counts r.recovery) (Acked now sent bytes false rtt) calls all in
    let rest = All-tail (Counts r.recovery) (Acked now sent bytes false rtt) calls all in
    let P : Reno → Type 0 = λ s. Filled r (Acked now sent bytes false rtt ∷ calls) (after_calls reno_steps s calls) in
    elim (cases_lt (r.counted + bytes) r.window) [
      | inl part ↦ (
          let next : Reno = record r { counted = r.counted + bytes } in
          let step : reno_acked r sent bytes false ≡ next = counts r sent bytes later over part (omega arith) in
          let onward : Filled next calls (after_calls reno_steps next calls) = avoidance next calls rest over room (omega arith) in
          subst P (sym step) (onward.0, onward.1, omega (arith, onward.2)))
      | inr full ↦ (
          let next : Reno = record r { counted = r.counted + bytes - r.window; window = r.window + r.size } in
          let step : reno_acked r sent bytes false ≡ next = fills r sent bytes later over full (omega arith) (omega arith) in
          let onward : Filled next calls (after_calls reno_steps next calls) = avoidance next calls rest (omega arith) (omega arith) (omega arith) in
          subst P (sym step) (suc onward.0, omega (arith, onward.1, suc-mul onward.0 r.size), omega (arith, onward.2)))
    ]
avoidance r (AcksEnded now in_flight app_limited largest ∷ calls) all over room fits = absurd (All-head (Counts r.recovery) (AcksEnded now in_flight app_limited largest) calls all)
avoidance r (Congested now sent persistent lost ∷ calls) all over room fits = absurd (All-head (Counts r.recovery) (Congested now sent persistent lost) calls all)
avoidance r (Resized size ∷ calls) all over room fits = absurd (All-head (Counts r.recovery) (Resized size) calls all)

-- where no call acknowledges more than a window, less than a window is left to count
left_below : (most : ℕ) (r : Reno) (calls : List Told) → AllCount r calls → AreWithin most calls → most ≤ r.window → r.threshold ≤ r.window → r.size ≤ r.window → r.window + r.counted + acked_bytes calls < 2 ^ 64 → r.counted < r.window
    → (after_calls reno_steps r calls).counted < window_after r calls
left_below most r [] all each large over room fits less = less
left_below most r (Sent now bytes last ∷ calls) all each large over room fits less = absurd (All-head (Counts r.recovery) (Sent now bytes last) calls all)
left_below most r (Acked now sent bytes true rtt ∷ calls) all each large over room fits less = absurd (All-head (Counts r.recovery) (Acked now sent bytes true rtt) calls all)
left_below most r (Acked now sent bytes false rtt ∷ calls) all each large over room fits less =
    let later : r.recovery < sent = All-head (Counts r.recovery) (Acked now sent bytes false rtt) calls all in
    let rest = All-tail (Counts r.recovery) (Acked now sent bytes false rtt) calls all in
    let first : bytes ≤ most = All-head (λ call. bytes_told call ≤ most) (Acked now sent bytes false rtt) calls each in
    let others = All-tail (λ call. bytes_told call ≤ most) (Acked now sent bytes false rtt) calls each in
    let P : Reno → Type 0 = λ s. (after_calls reno_steps s calls).counted < window_after s calls in
    elim (cases_lt (r.counted + bytes) r.window) [
      | inl part ↦ (
          let next : Reno = record r { counted = r.counted + bytes } in
          let step : reno_acked r sent bytes false ≡ next = counts r sent bytes later over part (omega arith) in
          subst P (sym step) (left_below most next calls rest others large over room (omega arith) part))
      | inr full ↦ (
          let next : Reno = record r { counted = r.counted + bytes - r.window; window = r.window + r.size } in
          let step : reno_acked r sent bytes false ≡ next = fills r sent bytes later over full (omega arith) (omega arith) in
          subst P (sym step) (left_below most next calls rest others (omega arith) (omega arith) (omega arith) (omega arith) (omega arith)))
    ]
left_below most r (AcksEnded now in_flight app_limited largest ∷ calls) all each large over room fits less = absurd (All-head (Counts r.recovery) (AcksEnded now in_flight app_limited largest) calls all)
left_below most r (Congested now sent persistent lost ∷ calls) all each large over room fits less = absurd (All-head (Counts r.recovery) (Congested now sent persistent lost) calls all)
left_below most r (Resized size ∷ calls) all each large over room fits less = absurd (All-head (Counts r.recovery) (Resized size) calls all)

pub less_is_left : (r : Reno) (calls : List Told) → AllCount r calls → AreWithin r.window calls → r.threshold ≤ r.window → r.size ≤ r.window → r.window + r.counted + acked_bytes calls < 2 ^ 64 → r.counted < r.window
    → (after_calls reno_steps r calls).counted < window_after r calls
less_is_left r calls all each over room fits less = left_below r.window r calls all each (omega arith) over room fits less
