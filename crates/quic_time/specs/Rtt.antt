-- How long a round trip takes, estimated from samples (RFC 9002, section 5).
use Rattle.std.specs.Prelude.{ℕ, ◌+◌, ◌-◌, ◌*◌, ◌/◌, max, min, Option, Some, None, unwrap_or, List, [], ◌∷◌, nat_le, if◌then◌else◌}
use Rattle.std.specs.Int.{abs_diff}
use Rattle.quic_time.specs.Clocks.{saturated, granularity}

-- the latest sample, the smoothed time, which there is from the first sample on, its mean
-- variation, and the least sample
pub record Rtt : Type 0 where
  pub latest : ℕ
  pub smoothed : Option ℕ
  pub var : ℕ
  pub least : ℕ

-- before the first sample: a time that is assumed, and half of it as its variation
abbrev pub assumed_rtt : ℕ → Rtt
assumed_rtt initial = record { latest = initial; smoothed = None; var = initial / 2; least = initial }

-- the estimate that a first sample makes, with its variation, also where it was taken elsewhere
-- (section 5.3): it is the smoothed time, and the least
abbrev pub told_rtt : ℕ → ℕ → Rtt
told_rtt rtt variation = record { latest = rtt; smoothed = Some rtt; var = variation; least = rtt }

-- the best estimate
abbrev pub best_rtt : Rtt → ℕ
best_rtt r = unwrap_or r.smoothed r.latest

-- the greater of the best estimate and the latest sample
abbrev pub conservative_rtt : Rtt → ℕ
conservative_rtt r = max (best_rtt r) r.latest

-- the probe timeout without the peer's delay (RFC 9002, section 6.2.1)
abbrev pub probe_timeout : Rtt → ℕ
probe_timeout r = saturated (best_rtt r + max (4 * r.var) granularity)

-- a sample without the time for which the peer held its acknowledgement back, unless that goes
-- below the least sample (section 5.3)
abbrev pub adjusted_rtt : ℕ → ℕ → ℕ → ℕ
adjusted_rtt least delay rtt = if nat_le (least + delay) rtt then rtt - delay else rtt

-- seven eighths of what was, and an eighth of the sample
abbrev pub smoothed_with : ℕ → ℕ → ℕ
smoothed_with smoothed sample = (7 * smoothed + sample) / 8

-- three quarters of what was, and a quarter of how far the sample is from the smoothed time before
-- it
abbrev pub var_with : ℕ → ℕ → ℕ → ℕ
var_with var smoothed sample = (3 * var + abs_diff smoothed sample) / 4

-- the first sample stands for itself, with half of it as its variation
abbrev pub first_sample : ℕ → Rtt
first_sample rtt = told_rtt rtt (rtt / 2)

-- a later one, which changes the smoothed time and its variation
abbrev pub later_sample : ℕ → ℕ → ℕ → ℕ → ℕ → Rtt
later_sample least var smoothed delay rtt =
    let sample = adjusted_rtt (min least rtt) delay rtt in
    record {
      latest = rtt;
      smoothed = Some (smoothed_with smoothed sample);
      var = var_with var smoothed sample;
      least = min least rtt;
    }

-- the estimate with one more sample, by whether there was one before
abbrev pub sampled_rtt : Option ℕ → ℕ → ℕ → ℕ → ℕ → Rtt
sampled_rtt None least var delay rtt = first_sample rtt
sampled_rtt (Some smoothed) least var delay rtt = later_sample least var smoothed delay rtt

-- the estimate with one more sample
abbrev pub with_sample : Rtt → ℕ → ℕ → Rtt
with_sample r delay rtt = sampled_rtt r.smoothed r.least r.var delay rtt

-- a sample: how long the round trip took, and for how much of that the peer held its
-- acknowledgement back
pub record Sample : Type 0 where
  pub delay : ℕ
  pub rtt : ℕ

-- The estimate after a history of samples, the latest first: each part by a formula of its own over
-- the history.

-- the least sample
abbrev pub least_over : Sample → List Sample → ℕ
least_over s [] = s.rtt
least_over s (t ∷ before) = min (least_over t before) s.rtt

-- the latest sample without the delay of the peer, judged by the least of all
abbrev pub adjusted_over : Sample → List Sample → ℕ
adjusted_over s before = adjusted_rtt (least_over s before) s.delay s.rtt

-- the smoothed time
abbrev pub smoothed_over : Sample → List Sample → ℕ
smoothed_over s [] = s.rtt
smoothed_over s (t ∷ before) = (7 * smoothed_over t before + adjusted_over s (t ∷ before)) / 8

-- its mean variation, judged by the smoothed time before the latest sample
abbrev pub var_over : Sample → List Sample → ℕ
var_over s [] = s.rtt / 2
var_over s (t ∷ before) = (3 * var_over t before + abs_diff (smoothed_over t before) (adjusted_over s (t ∷ before))) / 4

-- all of it; before the first sample a time is assumed
abbrev pub estimate_over : List Sample → ℕ → Rtt
estimate_over [] initial = assumed_rtt initial
estimate_over (s ∷ before) initial = record {
  latest = s.rtt;
  smoothed = Some (smoothed_over s before);
  var = var_over s before;
  least = least_over s before;
}
