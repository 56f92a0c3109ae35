-- The tokens that an observer reckons are those that the pacer of its end has.
use Rattle.std.proofs.Common.{◌≡◌, ℕ, ◌+◌, ◌-◌, ◌*◌, ◌/◌, ◌^◌, max, min, Bool, true, false, not, ◌&&◌, ◌||◌, List, [], ◌∷◌, Option, Some, None, refl, sym, ap, ◌∙◌, arith}
use Rattle.std.specs.Prelude.{◌==◌, nat_le, nat_lt, if◌then◌else◌}
use Rattle.quic_time.specs.Rtt.{Rtt, best_rtt}
use Rattle.quic_config.specs.Transport.{TransportSettings, first_estimate}
use Rattle.quic_congestion.specs.Pacer.{Pacing, Ask, capacity_of, new_pacing, after_resize, gained, after_refill, next_send, after_ask, answer_of, pacing_after}
use Rattle.quic_congestion.specs.Pacer as pacer
use Rattle.quic_machine.specs.Control.{if_later}
use Rattle.quic_headline.specs.RoundTrip.{expected_round, first_round}
use Rattle.quic_headline.specs.Tokens.{most_tokens, tokens_in, time_for, full_pacer, begun_pacer, fitted, lets_go, refilled_for, asked_for, goes_at, names_for, spent_by}
use Rattle.quic_headline.proofs.Packets.RoundTrip.{first_same}

-- ---- numbers

between : (size n : ℕ) → min (256 * size) (max (10 * size) n) ≡ max (10 * size) (min n (256 * size))
between size n = omega arith

most_same : (round window size : ℕ) → most_tokens round window size ≡ capacity_of round window size
most_same round window size = between size (window * 2000000 / max round 1)

five_of : (n : ℕ) → 5 * n ≡ n * 5
five_of n = omega arith

four_of : (n : ℕ) → 4 * n ≡ n * 4
four_of n = omega arith

in_same : (round window time : ℕ) → tokens_in round window time ≡ gained round window time
in_same round window time = ap (λ (n : ℕ). n * time / (4 * round)) (five_of window)

time_same : (round window tokens : ℕ) → time_for round window tokens ≡ pacer.time_for round tokens window
time_same round window tokens = four_of (round * tokens / window / 5)

least_self : (n : ℕ) → min n n ≡ n
least_self n = omega arith

-- ---- a pacer as it is made

pub full_same : (round window size moment : ℕ) → full_pacer round window size moment ≡ new_pacing round window size moment
full_same round window size moment = ap (λ (most : ℕ). record { capacity = most; window = window; size = size; tokens = most; refilled = moment }) (most_same round window size)

-- so is that with which an end begins
pub begun_same : (t : TransportSettings) (window size moment : ℕ) → begun_pacer (first_round t) (new_pacing (best_rtt (first_estimate t)) window size moment) ≡ new_pacing (best_rtt (first_estimate t)) window size moment
begun_same t window size moment =
    ap (λ (r : Rtt). with_most (most_tokens (expected_round r) window size)) (first_same t)
    ∙ ap with_most (most_same (best_rtt (first_estimate t)) window size)
    ∙ ap (λ (tokens : ℕ). record { capacity = most; window = window; size = size; tokens = tokens; refilled = moment }) (least_self most)
  where
    most : ℕ
    most = capacity_of (best_rtt (first_estimate t)) window size

    with_most : ℕ → Pacing
    with_most n = record { capacity = n; window = window; size = size; tokens = min most n; refilled = moment }

-- ---- a pacer that is asked

fitted_same : (p : Pacing) (ask : Ask) → fitted p ask ≡ after_resize p ask.rtt ask.window ask.size
fitted_same p ask =
    ap (λ (most : ℕ). if (p.window == ask.window) && (p.size == ask.size) then p else record { capacity = most; window = ask.window; size = ask.size; tokens = min p.tokens most; refilled = p.refilled }) (most_same ask.rtt ask.window ask.size)

refilled_same : (p : Pacing) (ask : Ask) → refilled_for p ask ≡ after_refill p ask.rtt ask.window ask.moment
refilled_same p ask = ap (λ (n : ℕ). record p { tokens = min (p.tokens + n) p.capacity; refilled = ask.moment }) (in_same ask.rtt ask.window (ask.moment - p.refilled))

pub asked_same : (p : Pacing) (ask : Ask) → asked_for p ask ≡ after_ask p ask
asked_same p ask =
    ap (λ (q : Pacing). if lets_go q ask then q else refilled_for q ask) (fitted_same p ask)
    ∙ (let q = after_resize p ask.rtt ask.window ask.size in ap (λ (x : Pacing). if lets_go q ask then q else x) (refilled_same q ask))

-- the moment that it names
abbrev pub names_of : Pacing → Ask → Option ℕ
names_of p ask = if_later ask.moment (answer_of p ask)

pub names_same : (p : Pacing) (ask : Ask) → names_for p ask ≡ names_of p ask
names_same p ask = ap named (asked_same p ask) ∙ go (lets_go q ask) refl
  where
    named : Pacing → Option ℕ
    named behind = if not (lets_go behind ask) && nat_lt ask.moment (goes_at behind ask) then Some (goes_at behind ask) else None

    q : Pacing
    q = after_resize p ask.rtt ask.window ask.size

    full : Pacing
    full = after_refill q ask.rtt ask.window ask.moment

    -- what it answers where it lets go, and where it doesn't
    answers : Bool → Option ℕ
    answers b = if_later ask.moment (if b then None else next_send full ask.rtt ask.bytes ask.window ask.moment)

    -- tokens alone let it go where nothing else does
    alone : (enough big short other : Bool) → ((enough || big) || short) ≡ false → ((other || big) || short) ≡ other
    alone false false false true is = refl
    alone false false false false is = refl
    alone true big short other is = cc
    alone false true short other is = cc
    alone false false true other is = cc

    -- tokens came, and there are enough or too few
    enough : (b : Bool) → (if not b && nat_lt ask.moment (goes_at full ask) then Some (goes_at full ask) else None) ≡ if_later ask.moment (if b then None else Some (goes_at full ask))
    enough true = refl
    enough false = refl

    go : (b : Bool) → lets_go q ask ≡ b → named (if lets_go q ask then q else full) ≡ answers (lets_go q ask)
    go true is =
        ap (λ (b : Bool). named (if b then q else full)) is
        ∙ ap (λ (b : Bool). if not b && nat_lt ask.moment (goes_at q ask) then Some (goes_at q ask) else None) is
        ∙ ap answers (sym is)
    go false is =
        ap (λ (b : Bool). named (if b then q else full)) is
        ∙ ap (λ (b : Bool). if not b && nat_lt ask.moment (goes_at full ask) then Some (goes_at full ask) else None) (alone (nat_le ask.bytes q.tokens) (nat_lt (2 ^ 32 - 1) ask.window) (ask.rtt == 0) (nat_le ask.bytes full.tokens) is)
        ∙ enough (nat_le ask.bytes full.tokens)
        ∙ ap (λ (n : ℕ). if_later ask.moment (if nat_le ask.bytes full.tokens then None else Some (min (ask.moment + n) (2 ^ 64 - 1)))) (time_same ask.rtt ask.window (max ask.bytes full.capacity - full.tokens))
        ∙ ap answers (sym is)

-- in turn
pub spent_same : (cs : List pacer.Call) (p : Pacing) → spent_by cs p ≡ pacing_after cs p
spent_same [] p = refl
spent_same (pacer.asked_with ask ∷ cs) p = ap (λ (q : Pacing). spent_by cs q) (asked_same p ask) ∙ spent_same cs (after_ask p ask)
spent_same (pacer.went bytes ∷ cs) p = spent_same cs (record p { tokens = p.tokens - bytes })
