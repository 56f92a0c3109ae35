-- What the definitions of pacing say together.
use Rattle.std.proofs.Common.{◌≡◌, ℕ, ◌+◌, ◌-◌, ◌^◌, ◌<◌, ◌≤◌, max, min, Bool, true, false, ◌&&◌, ◌||◌, ◌==◌, cond, nat_le, nat_lt, List, [], ◌∷◌, fold, sum, is_none, IfSome, Some, None, refl, ap, sym, ◌∙◌, arith}
use Rattle.std.proofs.lemmas.List.Sums.{sum_by-cons}
use Rattle.std.proofs.lemmas.Bool.{cond_both, and_parts, eqb-true}
use Rattle.quic_congestion.specs.Pacer.{Pacing, IsPacing, new_pacing, after_datagram, tokens_after, after_resize, after_refill, after_asking, goes_at_once, next_send, after_delay, delay_of, time_for, capacity_of, Ask, after_ask, Call, asked_with, went, pacing_after}

-- the tokens after a list of datagrams, and after one more in front
tokens-cons : (p : Pacing) (len : ℕ) (lengths : List ℕ) → (p.tokens - len) - sum lengths ≡ p.tokens - sum (len ∷ lengths)
tokens-cons p len lengths = let front : sum (len ∷ lengths) ≡ len + sum lengths = sum_by-cons (λ x. x) len lengths in omega (arith, front)

with_tokens : (p : Pacing) (m n : ℕ) → m ≡ n → record p { tokens = m } ≡ record p { tokens = n }
with_tokens p m n e = ap (λ (k : ℕ). let q : Pacing = record p { tokens = k } in q) e

pub fold-after_datagram : (p : Pacing) (lengths : List ℕ) → fold after_datagram p lengths ≡ record p { tokens = tokens_after p.tokens lengths }
fold-after_datagram p [] = with_tokens p p.tokens (p.tokens - 0) (omega arith)
fold-after_datagram p (len ∷ lengths) =
    fold-after_datagram (after_datagram p len) lengths
    ∙ with_tokens p ((p.tokens - len) - sum lengths) (p.tokens - sum (len ∷ lengths)) (tokens-cons p len lengths)

-- a new pacer is full, and its capacity has its bounds
pub made : (rtt window size moment : ℕ) → IsPacing (new_pacing rtt window size moment)
made rtt window size moment = record { fits = omega arith; least = omega arith; most = omega arith }

pub sent : (p : Pacing) (len : ℕ) → IsPacing p → IsPacing (after_datagram p len)
sent p len is = let fits : p.tokens ≤ p.capacity = is.fits in record { fits = omega arith; least = is.least; most = is.most }

resized : (p : Pacing) (rtt window size : ℕ) → IsPacing p → IsPacing (after_resize p rtt window size)
resized p rtt window size is = cond_both ((p.window == window) && (p.size == size)) _ _ IsPacing (λ same. is) (λ other. record { fits = omega arith; least = omega arith; most = omega arith })

refilled : (p : Pacing) (rtt window moment : ℕ) → IsPacing p → IsPacing (after_refill p rtt window moment)
refilled p rtt window moment is = record { fits = omega arith; least = is.least; most = is.most }

asked_keeps : (p : Pacing) (rtt bytes window moment : ℕ) → IsPacing p → IsPacing (after_asking p rtt bytes window moment)
asked_keeps p rtt bytes window moment is = cond_both (goes_at_once p rtt bytes window) _ _ IsPacing (λ at_once. is) (λ waits. refilled p rtt window moment is)

pub delayed : (p : Pacing) (rtt bytes size window moment : ℕ) → IsPacing p → IsPacing (after_delay p rtt bytes size window moment)
delayed p rtt bytes size window moment is = asked_keeps (after_resize p rtt window size) rtt bytes window moment (resized p rtt window size is)

-- the bounds after any calls
pub bounds : (calls : List Call) (p : Pacing) → IsPacing p → IsPacing (pacing_after calls p)
bounds [] p is = is
bounds (asked_with ask ∷ calls) p is = bounds calls _ (delayed p ask.rtt ask.bytes ask.size ask.window ask.moment is)
bounds (went length ∷ calls) p is = bounds calls _ (sent p length is)

-- an ask with another window or size reckons the capacity anew
last_resized : (p : Pacing) (rtt window size : ℕ) → (p.window ≡ window → p.size ≡ size → ⊥) → (after_resize p rtt window size).capacity ≡ capacity_of rtt window size
last_resized p rtt window size differ =
    cond_both ((p.window == window) && (p.size == size)) _ _ (λ (q : Pacing). q.capacity ≡ capacity_of rtt window size)
    (λ same. absurd (let both = and_parts (p.window == window) (p.size == size) same in differ (eqb-true p.window window both.0) (eqb-true p.size size both.1)))
    (λ other. refl)

pub last : (p : Pacing) (ask : Ask) → (p.window ≡ ask.window → p.size ≡ ask.size → ⊥) → (after_ask p ask).capacity ≡ capacity_of ask.rtt ask.window ask.size
last p ask differ =
    let e = last_resized p ask.rtt ask.window ask.size differ in
    cond_both (goes_at_once (after_resize p ask.rtt ask.window ask.size) ask.rtt ask.bytes ask.window) _ _ (λ (q : Pacing). q.capacity ≡ capacity_of ask.rtt ask.window ask.size) (λ at_once. e) (λ waits. e)

-- where a test answers, and whether one does
none_of : (b : Bool) (m : ℕ) → is_none (cond b None (Some m)) ≡ b
none_of true m = refl
none_of false m = refl

-- both answers of a test that is asked again after a step
again : (b c d : Bool) → (b || c || d) ≡ false → (e : Bool) → e ≡ (e || c || d)
again true c d h e = cc
again false true d h e = cc
again false false true h e = cc
again false false false h true = refl
again false false false h false = refl

waits_by : (p : Pacing) (rtt bytes window moment : ℕ) (b : Bool) → goes_at_once p rtt bytes window ≡ b
    → is_none (cond b None (next_send (after_refill p rtt window moment) rtt bytes window moment)) ≡ goes_at_once (cond b p (after_refill p rtt window moment)) rtt bytes window
waits_by p rtt bytes window moment true is = sym is
waits_by p rtt bytes window moment false is =
    none_of (nat_le bytes (after_refill p rtt window moment).tokens) _
    ∙ again (nat_le bytes p.tokens) (nat_lt (2 ^ 32 - 1) window) (rtt == 0) is (nat_le bytes (after_refill p rtt window moment).tokens)

-- bytes wait exactly where they would after the call
pub waits : (p : Pacing) (rtt bytes size window moment : ℕ) → is_none (delay_of p rtt bytes size window moment) ≡ goes_at_once (after_delay p rtt bytes size window moment) rtt bytes window
waits p rtt bytes size window moment = waits_by (after_resize p rtt window size) rtt bytes window moment _ refl

next_later : (p : Pacing) (rtt bytes window moment : ℕ) → moment < 2 ^ 64 → (b : Bool) → IfSome (cond b None (Some (min (moment + time_for rtt (max bytes p.capacity - p.tokens) window) (2 ^ 64 - 1)))) (λ until. moment ≤ until)
next_later p rtt bytes window moment h true = tt
next_later p rtt bytes window moment h false = omega arith

later_by : (p : Pacing) (rtt bytes window moment : ℕ) → moment < 2 ^ 64 → (b : Bool) → IfSome (cond b None (next_send p rtt bytes window moment)) (λ until. moment ≤ until)
later_by p rtt bytes window moment h true = tt
later_by p rtt bytes window moment h false = next_later p rtt bytes window moment h (nat_le bytes p.tokens)

-- no moment that is named is earlier
pub later : (p : Pacing) (rtt bytes size window moment : ℕ) → moment < 2 ^ 64 → IfSome (delay_of p rtt bytes size window moment) (λ until. moment ≤ until)
later p rtt bytes size window moment h = later_by (after_refill (after_resize p rtt window size) rtt window moment) rtt bytes window moment h (goes_at_once (after_resize p rtt window size) rtt bytes window)
