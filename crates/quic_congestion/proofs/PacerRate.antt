-- No more bytes go with their tokens than the pacer has tokens for, and five quarters of the
-- greatest window in each shortest round trip since.
use Rattle.std.proofs.Common.{◌≡◌, ℕ, ◌+◌, ◌-◌, ◌*◌, ◌/◌, ◌^◌, ◌<◌, ◌≤◌, Bool, true, false, ◌&&◌, ◌||◌, ◌==◌, cond, nat_le, nat_lt, List, [], ◌∷◌, is_none, Option, None, refl, ap, sym, subst, ◌∙◌, inl, inr, arith, div-mul-le_self, mul-le-mul_right}
use Rattle.std.proofs.lemmas.Bool.{cond_both, leb-true, ltb-true, eqb-true, or_cases}
use Rattle.std.proofs.lemmas.Nat.{le-div}
use Rattle.quic_congestion.specs.Pacer.{Pacing, after_datagram, after_resize, after_refill, goes_at_once, gained, Ask, Call, asked_with, went, after_ask, answer_of, pacing_after, covered_bytes, AreAsked}
use Rattle.quic_congestion.proofs.PacerLaws.{waits}

-- ---- what comes in a time

-- what comes in two times comes in both together
parts : (m n k : ℕ) → 0 < k → m / k + n / k ≤ (m + n) / k
parts m n k some =
    let left : m / k * k ≤ m = div-mul-le_self m k in
    let right : n / k * k ≤ n = div-mul-le_self n k in
    le-div (m / k + n / k) (m + n) k some (omega (arith, left, right))

gained_parts : (rtt window x y z : ℕ) → 0 < rtt → x + y ≡ z → gained rtt window x + gained rtt window y ≤ gained rtt window z
gained_parts rtt window x y z some e =
    let turn : 0 < 4 * rtt = omega arith in
    let both : window * 5 * x / (4 * rtt) + window * 5 * y / (4 * rtt) ≤ (window * 5 * x + window * 5 * y) / (4 * rtt) = parts (window * 5 * x) (window * 5 * y) (4 * rtt) turn in
    let whole : window * 5 * x + window * 5 * y ≡ window * 5 * z = subst (λ (n : ℕ). window * 5 * x + window * 5 * y ≡ window * 5 * n) e (omega arith) in
    subst (λ (n : ℕ). gained rtt window x + gained rtt window y ≤ n / (4 * rtt)) whole both

-- a longer round trip and a smaller window bring no more; q is what they bring
scaled_most : (q r rtt w window t : ℕ) → rtt ≤ r → w ≤ window → q * (4 * r) ≤ w * 5 * t → q * (4 * rtt) ≤ window * 5 * t
scaled_most q r rtt w window t longer smaller h =
    let turn : rtt * q ≤ r * q = mul-le-mul_right q longer in
    let wide : w * (5 * t) ≤ window * (5 * t) = mul-le-mul_right (5 * t) smaller in
    omega (arith, turn, wide, h)

gained_grows : (rtt r w window t : ℕ) → 0 < rtt → rtt ≤ r → w ≤ window → gained r w t ≤ gained rtt window t
gained_grows rtt r w window t some longer smaller =
    le-div (gained r w t) (window * 5 * t) (4 * rtt) (omega arith) (scaled_most (gained r w t) r rtt w window t longer smaller (div-mul-le_self (w * 5 * t) (4 * r)))

-- ---- a call

-- what an ask at a moment does, with a round trip of at least so long and a window of at most so
-- many bytes
record Step (rtt window : ℕ) (p : Pacing) (moment : ℕ) (q : Pacing) : Type 0 where
  after : p.refilled ≤ q.refilled
  before : q.refilled ≤ moment
  covered : q.tokens ≤ p.tokens + gained rtt window (q.refilled - p.refilled)

-- a change of the window or of the size only takes tokens
record Cut (p q : Pacing) : Type 0 where
  same : q.refilled ≡ p.refilled
  fewer : q.tokens ≤ p.tokens

resized : (p : Pacing) (rtt window size : ℕ) → Cut p (after_resize p rtt window size)
resized p rtt window size =
    cond_both ((p.window == window) && (p.size == size)) _ _ (Cut p) (λ stays. record { same = refl; fewer = omega arith }) (λ other. record { same = refl; fewer = omega arith })

stayed : (rtt window : ℕ) (p q : Pacing) (moment : ℕ) → Cut p q → p.refilled ≤ moment → Step rtt window p moment q
stayed rtt window p q moment cut h =
    let same : q.refilled ≡ p.refilled = cut.same in
    let fewer : q.tokens ≤ p.tokens = cut.fewer in
    record { after = omega (arith, same); before = omega (arith, same, h); covered = omega (arith, fewer) }

filled : (rtt window r w : ℕ) (p q : Pacing) (moment : ℕ) → 0 < rtt → rtt ≤ r → w ≤ window → Cut p q → p.refilled ≤ moment → Step rtt window p moment (after_refill q r w moment)
filled rtt window r w p q moment some longer smaller cut h =
    let same : q.refilled ≡ p.refilled = cut.same in
    let fewer : q.tokens ≤ p.tokens = cut.fewer in
    let came : gained r w (moment - q.refilled) ≤ gained rtt window (moment - p.refilled)
    = subst (λ (m : ℕ). gained r w (moment - q.refilled) ≤ gained rtt window (moment - m)) same (gained_grows rtt r w window (moment - q.refilled) some longer smaller) in
    record { after = h; before = omega arith; covered = omega (arith, fewer, came) }

step : (rtt window : ℕ) (p : Pacing) (ask : Ask) → 0 < rtt → rtt ≤ ask.rtt → ask.window ≤ window → p.refilled ≤ ask.moment → Step rtt window p ask.moment (after_ask p ask)
step rtt window p ask some longer smaller h =
    let q : Pacing = after_resize p ask.rtt ask.window ask.size in
    let cut : Cut p q = resized p ask.rtt ask.window ask.size in
    cond_both (goes_at_once q ask.rtt ask.bytes ask.window) _ _ (Step rtt window p ask.moment)
    (λ at_once. stayed rtt window p q ask.moment cut h) (λ waits. filled rtt window ask.rtt ask.window p q ask.moment some longer smaller cut h)

-- ---- any calls

-- asks from a later moment on are from an earlier one on
earlier : (calls : List Call) (rtt window from late until : ℕ) → from ≤ late → AreAsked calls rtt window late until → AreAsked calls rtt window from until
earlier [] rtt window from late until h asks = omega (arith, h, asks)
earlier (asked_with ask ∷ calls) rtt window from late until h asks = let first : late ≤ ask.moment = asks.2 in (asks.0, asks.1, omega (arith, h, first), asks.3)
earlier (went length ∷ calls) rtt window from late until h asks = earlier calls rtt window from late until h asks

until_after : (calls : List Call) (rtt window from until : ℕ) → AreAsked calls rtt window from until → from ≤ until
until_after [] rtt window from until h = h
until_after (asked_with ask ∷ calls) rtt window from until h = let first : from ≤ ask.moment = h.2 in let rest : ask.moment ≤ until = until_after calls rtt window ask.moment until h.3 in omega (arith, first, rest)
until_after (went length ∷ calls) rtt window from until h = until_after calls rtt window from until h

joined : (rtt window : ℕ) (p q : Pacing) (moment rest until : ℕ) → 0 < rtt → Step rtt window p moment q → q.refilled ≤ until → rest ≤ q.tokens + gained rtt window (until - q.refilled)
    → rest ≤ p.tokens + gained rtt window (until - p.refilled)
joined rtt window p q moment rest until some s h there =
    let after : p.refilled ≤ q.refilled = s.after in
    let covered : q.tokens ≤ p.tokens + gained rtt window (q.refilled - p.refilled) = s.covered in
    let both : gained rtt window (q.refilled - p.refilled) + gained rtt window (until - q.refilled) ≤ gained rtt window (until - p.refilled)
    = gained_parts rtt window (q.refilled - p.refilled) (until - q.refilled) (until - p.refilled) some (omega (arith, after, h)) in
    omega (arith, covered, there, both)

-- a datagram takes the tokens that it is counted with
taken : (p : Pacing) (length rest bound : ℕ) (b : Bool) → nat_le length p.tokens ≡ b → rest ≤ (p.tokens - length) + bound → cond b length 0 + rest ≤ p.tokens + bound
taken p length rest bound true fits h = let enough = leb-true length p.tokens fits in omega (arith, enough, h)
taken p length rest bound false lacks h = omega (arith, h)

-- no more goes with its tokens than the tokens at first and those that came
pub rate : (calls : List Call) (p : Pacing) (rtt window until : ℕ) → 0 < rtt → AreAsked calls rtt window p.refilled until → covered_bytes calls p + (pacing_after calls p).tokens ≤ p.tokens + gained rtt window (until - p.refilled)
rate [] p rtt window until some asks = omega arith
rate (asked_with ask ∷ calls) p rtt window until some asks =
    let q : Pacing = after_ask p ask in
    let s : Step rtt window p ask.moment q = step rtt window p ask some asks.0 asks.1 asks.2 in
    let from : AreAsked calls rtt window q.refilled until = earlier calls rtt window q.refilled ask.moment until s.before asks.3 in
    joined rtt window p q ask.moment _ until some s (until_after calls rtt window q.refilled until from) (rate calls q rtt window until some from)
rate (went length ∷ calls) p rtt window until some asks =
    let q : Pacing = after_datagram p length in
    let rest : covered_bytes calls q + (pacing_after calls q).tokens ≤ (p.tokens - length) + gained rtt window (until - p.refilled) = rate calls q rtt window until some asks in
    let whole = taken p length (covered_bytes calls q + (pacing_after calls q).tokens) (gained rtt window (until - p.refilled)) (nat_le length p.tokens) refl rest in
    omega (arith, whole)

-- ---- what a pacer lets go

-- what goes at once has its tokens, where it's paced
has_tokens : (p : Pacing) (rtt bytes window : ℕ) → 0 < rtt → window < 2 ^ 32 → goes_at_once p rtt bytes window ≡ true → bytes ≤ p.tokens
has_tokens p rtt bytes window some paced at_once =
    elim (or_cases (nat_le bytes p.tokens || nat_lt (2 ^ 32 - 1) window) (rtt == 0) at_once) [
      | inl first ↦ elim (or_cases (nat_le bytes p.tokens) (nat_lt (2 ^ 32 - 1) window) first) [
        | inl fits ↦ leb-true bytes p.tokens fits
        | inr great ↦ let above : 2 ^ 32 - 1 < window = ltb-true (2 ^ 32 - 1) window great in omega (arith, above, paced)
      ]
      | inr short ↦ let none : rtt ≡ 0 = eqb-true rtt 0 short in omega (arith, none, some)
    ]

pub let_go : (p : Pacing) (ask : Ask) → 0 < ask.rtt → ask.window < 2 ^ 32 → answer_of p ask ≡ None → ask.bytes ≤ (after_ask p ask).tokens
let_go p ask some paced none =
    has_tokens (after_ask p ask) ask.rtt ask.bytes ask.window some paced
    (sym (waits p ask.rtt ask.bytes ask.size ask.window ask.moment) ∙ ap (λ (answer : Option ℕ). is_none answer) none)
