-- What comes in the time that is waited for tokens.
use Rattle.std.proofs.Common.{ℕ, ◌+◌, ◌*◌, ◌/◌, ◌<◌, ◌≤◌, arith, lit<, div-mul-le_self, mul-le-mul_right, lt_of_mul-lt-mul_right}
use native.Mathlib.Nat.{lt-div-mul-add, div-le_of_le-mul}
use Rattle.quic_congestion.specs.Pacer.{gained, time_for}

-- with the quotients a = rtt * missing / window and k = a / 5: five windows in k parts are no more
-- than what is missing in a round trip
steps_most : (rtt missing window a k : ℕ) → a * window ≤ rtt * missing → k * 5 ≤ a → window * 5 * (k * 4) ≤ (4 * rtt) * missing
steps_most rtt missing window a k scaled fifth =
    let times : k * 5 * window ≤ a * window = mul-le-mul_right window fifth in
    omega (arith, times, scaled)

pub gained_most : (rtt missing window : ℕ) → 0 < rtt → 0 < window → gained rtt window (time_for rtt missing window) ≤ missing
gained_most rtt missing window some_time some_window =
    div-le_of_le-mul (4 * rtt)
    (steps_most rtt missing window (rtt * missing / window) (rtt * missing / window / 5) (div-mul-le_self (rtt * missing) window) (div-mul-le_self (rtt * missing / window) 5))

-- with the quotients q of what came and r of five windows in a round trip besides
steps_least : (rtt missing window a k q r : ℕ) → rtt * missing < a * window + window → a < k * 5 + 5 → window * 5 * (k * 4) < q * (4 * rtt) + 4 * rtt → window * 5 < r * rtt + rtt
    → missing * rtt < (q + r + 2) * rtt
steps_least rtt missing window a k q r scaled fifth came five =
    let times : (a + 1) * window ≤ (k * 5 + 5) * window = mul-le-mul_right window (omega (arith, fifth)) in
    omega (arith, times, scaled, came, five)

pub gained_least : (rtt missing window : ℕ) → 0 < rtt → 0 < window → missing ≤ gained rtt window (time_for rtt missing window) + window * 5 / rtt + 1
gained_least rtt missing window some_time some_window =
    let a : ℕ = rtt * missing / window in
    let k : ℕ = a / 5 in
    let turn : 0 < 4 * rtt = omega arith in
    let short : missing * rtt < (gained rtt window (time_for rtt missing window) + window * 5 / rtt + 2) * rtt
    = steps_least rtt missing window a k (gained rtt window (time_for rtt missing window)) (window * 5 / rtt)
    (lt-div-mul-add some_window) (lt-div-mul-add (lit< tt)) (lt-div-mul-add turn) (lt-div-mul-add some_time) in
    let less : missing < gained rtt window (time_for rtt missing window) + window * 5 / rtt + 2 = lt_of_mul-lt-mul_right rtt short in
    omega (arith, less)
