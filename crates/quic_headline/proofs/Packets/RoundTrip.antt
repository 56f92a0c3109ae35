-- What an observer reckons of a round trip is what its end does.
use Rattle.std.proofs.Common.{◌≡◌, ℕ, ◌+◌, ◌-◌, ◌*◌, ◌/◌, max, min, Option, Some, None, refl, ap, arith}
use Rattle.std.specs.Int.{abs_diff}
use Rattle.quic_time.specs.Rtt.{Rtt, sampled_rtt, with_sample}
use Rattle.quic_config.specs.declared.first_sample.FirstSample.{FirstSample}
use Rattle.quic_config.specs.Transport.{TransportSettings, estimate_with, first_estimate}
use Rattle.quic_spaces.specs.Loss.{loss_delay}
use Rattle.quic_headline.specs.RoundTrip.{less_delay, begins_with, first_round, round_by, round_with}
use Rattle.quic_headline.specs.Observer.{Terms, late_by}

-- how far two times are apart
apart_same : (a b : ℕ) → max a b - min a b ≡ abs_diff a b
apart_same a b = omega arith

-- one more sample
pub sample_same : (r : Rtt) (delay sample : ℕ) → round_with r delay sample ≡ with_sample r delay sample
sample_same r delay sample = go r.smoothed
  where
    adjusted : ℕ
    adjusted = less_delay (min r.least sample) delay sample

    go : (o : Option ℕ) → round_by o r delay sample ≡ sampled_rtt o r.least r.var delay sample
    go None = refl
    go (Some smoothed) = ap (λ (apart : ℕ). record { latest = sample; smoothed = Some ((7 * smoothed + adjusted) / 8); var = (3 * r.var + apart) / 4; least = min r.least sample }) (apart_same smoothed adjusted)

-- before the first one
pub first_same : (t : TransportSettings) → first_round t ≡ first_estimate t
first_same t = go t.first_sample
  where
    go : (o : Option FirstSample) → begins_with o t.initial_rtt ≡ estimate_with o t.initial_rtt
    go None = refl
    go (Some s) = refl

-- how late a datagram may be
pub late_same : (t : Terms) (r : Rtt) → late_by t r ≡ loss_delay t.part r
late_same t r = refl
