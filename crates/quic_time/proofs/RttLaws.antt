-- Lemmas on histories of samples.
use Rattle.std.proofs.Common.{◌≡◌, ℕ, suc, ◌+◌, ◌*◌, ◌/◌, ◌≤◌, List, [], ◌∷◌, ◌++◌, get_or, fold, refl, sym, ap, ◌∙◌, arith, append_assoc, append-nil, inl, inr, zero}
use Rattle.std.specs.Prelude.{reverse, All, Any}
use Rattle.std.specs.Int.{abs_diff}
use Rattle.std.proofs.lemmas.List.{reverse-append}
use Rattle.std.proofs.lemmas.Bool.{cases_lt}
use Rattle.std.proofs.lemmas.Bool.Decides.{nat_tests}
use Rattle.quic_time.specs.Rtt.{Rtt, Sample, assumed_rtt, adjusted_rtt, with_sample, least_over, adjusted_over, smoothed_over, var_over, estimate_over}

-- a mean lies between what it is made of
mean_least : (low a b : ℕ) → low ≤ a → low ≤ b → low ≤ (7 * a + b) / 8
mean_least low a b g h = omega arith

mean_most : (n a b : ℕ) → a ≤ n → b ≤ n → (7 * a + b) / 8 ≤ n
mean_most n a b g h = omega arith

spread_most : (n v a b : ℕ) → v ≤ n → a ≤ n → b ≤ n → (3 * v + abs_diff a b) / 4 ≤ n
spread_most n v a b f g h = omega arith

-- what holds of all holds behind the first
behind : (n : ℕ) (s : Sample) (before : List Sample) → All (λ t. t.rtt ≤ n) (s ∷ before) → All (λ t. t.rtt ≤ n) before
behind n s before h k d lt = h (suc k) d (omega arith)

-- one more sample in front of a history
one_more : (s : Sample) (before : List Sample) (initial : ℕ) → with_sample (estimate_over before initial) s.delay s.rtt ≡ estimate_over (s ∷ before) initial
one_more s [] initial = refl
one_more s (t ∷ before) initial = refl

-- samples taken after a history
abbrev taken : Rtt → List Sample → Rtt
taken r samples = fold (λ r s. with_sample r s.delay s.rtt) r samples

onward : (samples before : List Sample) (initial : ℕ) → taken (estimate_over before initial) samples ≡ estimate_over (reverse samples ++ before) initial
onward [] before initial = refl
onward (s ∷ samples) before initial =
    let turned : reverse (s ∷ samples) ++ before ≡ reverse samples ++ (s ∷ before) =
    ap (λ (front : List Sample). front ++ before) (reverse-append (s ∷ []) samples) ∙ append_assoc (reverse samples) (s ∷ []) before in
    ap (λ (r : Rtt). taken r samples) (one_more s before initial) ∙ onward samples (s ∷ before) initial ∙ ap (λ (h : List Sample). estimate_over h initial) (sym turned)

-- samples taken one after the other leave the estimate over all of them
pub all_taken : (samples : List Sample) (initial : ℕ) → fold (λ r s. with_sample r s.delay s.rtt) (assumed_rtt initial) samples ≡ estimate_over (reverse samples) initial
all_taken samples initial =
    onward samples [] initial ∙ ap (λ (h : List Sample). estimate_over h initial) (append-nil (reverse samples))

-- the least sample is one of the samples
pub least_is_one : (s : Sample) (before : List Sample) → Any (λ t. t.rtt ≡ least_over s before) (s ∷ before)
least_is_one s [] = (0, s, omega arith, refl, refl)
least_is_one s (t ∷ before) =
    let found = least_is_one t before in
    elim (cases_lt s.rtt (least_over t before)) [
      | inl lt ↦ (0, s, omega arith, refl, omega arith)
      | inr le ↦ (suc found.0, found.1, omega (arith, found.2), found.3, omega (arith, found.4))
    ]

-- none is less
pub least_is_least : (s : Sample) (before : List Sample) → All (λ t. least_over s before ≤ t.rtt) (s ∷ before)
least_is_least s [] zero d lt = omega arith
least_is_least s [] (suc k) d lt = absurd (omega arith)
least_is_least s (t ∷ before) zero d lt = omega arith
least_is_least s (t ∷ before) (suc k) d lt =
    let below : least_over t before ≤ (get_or (t ∷ before) k d).rtt = least_is_least t before k d (omega arith) in
    omega arith

-- a sample without the delay of the peer is at least the least sample
adjusted_least : (least delay rtt : ℕ) → least ≤ rtt → least ≤ adjusted_rtt least delay rtt
adjusted_least least delay rtt h = grind (arith, nat_tests)

-- and at most the sample
adjusted_most : (least delay rtt : ℕ) → adjusted_rtt least delay rtt ≤ rtt
adjusted_most least delay rtt = grind (arith, nat_tests)

latest_least : (s : Sample) (before : List Sample) → least_over s before ≤ s.rtt
latest_least s [] = omega arith
latest_least s (t ∷ before) = omega arith

-- the smoothed time is at least the least sample
pub smoothed_least : (s : Sample) (before : List Sample) → least_over s before ≤ smoothed_over s before
smoothed_least s [] = omega arith
smoothed_least s (t ∷ before) =
    let old = smoothed_least t before in
    let new : least_over s (t ∷ before) ≤ adjusted_over s (t ∷ before) = adjusted_least (least_over s (t ∷ before)) s.delay s.rtt (latest_least s (t ∷ before)) in
    mean_least (least_over s (t ∷ before)) (smoothed_over t before) (adjusted_over s (t ∷ before)) (omega arith) new

-- it passes no bound of the samples
pub smoothed_most : (n : ℕ) (s : Sample) (before : List Sample) → All (λ t. t.rtt ≤ n) (s ∷ before) → smoothed_over s before ≤ n
smoothed_most n s [] h = h 0 s (omega arith)
smoothed_most n s (t ∷ before) h =
    let first : s.rtt ≤ n = h 0 s (omega arith) in
    let old : smoothed_over t before ≤ n = smoothed_most n t before (behind n s (t ∷ before) h) in
    let new : adjusted_over s (t ∷ before) ≤ s.rtt = adjusted_most (least_over s (t ∷ before)) s.delay s.rtt in
    mean_most n (smoothed_over t before) (adjusted_over s (t ∷ before)) old (omega arith)

-- nor does its variation
pub var_most : (n : ℕ) (s : Sample) (before : List Sample) → All (λ t. t.rtt ≤ n) (s ∷ before) → var_over s before ≤ n
var_most n s [] h = let first : s.rtt ≤ n = h 0 s (omega arith) in omega arith
var_most n s (t ∷ before) h =
    let first : s.rtt ≤ n = h 0 s (omega arith) in
    let rest = behind n s (t ∷ before) h in
    let old : var_over t before ≤ n = var_most n t before rest in
    let smoothed : smoothed_over t before ≤ n = smoothed_most n t before rest in
    let new : adjusted_over s (t ∷ before) ≤ s.rtt = adjusted_most (least_over s (t ∷ before)) s.delay s.rtt in
    spread_most n (var_over t before) (smoothed_over t before) (adjusted_over s (t ∷ before)) old smoothed (omega arith)
