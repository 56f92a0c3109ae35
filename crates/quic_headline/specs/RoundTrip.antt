-- How long a round trip takes, as an observer of a run's lists reckons it from what it measures
-- (RFC 9002, section 5). An estimate has four parts, as controllers are told them: the latest
-- sample, the smoothed time, which there is from the first sample on, the variation of samples, and
-- the least of them, in nanoseconds. How these follow from samples, and with which numbers, is the
-- observer's own.
use Rattle.std.specs.Prelude.{ℕ, ◌+◌, ◌-◌, ◌*◌, ◌/◌, max, min, nat_le, if◌then◌else◌, Option, Some, None, unwrap_or}
use Rattle.quic_time.specs.Rtt.{Rtt}
use Rattle.quic_config.specs.declared.first_sample.FirstSample.{FirstSample}
use Rattle.quic_config.specs.Transport.{TransportSettings}

-- with no sample yet: a time that is assumed, and half of it as its variation (sections 5.3 and
-- 6.2.2)
abbrev pub assumed_round : ℕ → Rtt
assumed_round initial = record { latest = initial; smoothed = None; var = initial / 2; least = initial }

-- the first sample is the smoothed time and the least one, with this variation (section 5.3)
abbrev pub begun_round : ℕ → ℕ → Rtt
begun_round sample variation = record { latest = sample; smoothed = Some sample; var = variation; least = sample }

-- where the connection begins: with a sample that was taken before, and its variation, or with none
abbrev pub begins_with : Option FirstSample → ℕ → Rtt
begins_with None initial = assumed_round initial
begins_with (Some s) initial = begun_round s.rtt s.variation

-- as it is configured
abbrev pub first_round : TransportSettings → Rtt
first_round t = begins_with t.first_sample t.initial_rtt

-- a sample less the time for which the peer held its acknowledgement back, where no less than the
-- least sample is left of it (section 5.3)
abbrev pub less_delay : ℕ → ℕ → ℕ → ℕ
less_delay least delay sample = if nat_le (least + delay) sample then sample - delay else sample

-- A sample behind others, which had this smoothed time (section 5.3). The least of all comes first:
-- by it the sample is taken without the peer's delay. The variation goes a quarter of the way to
-- how far that is from the smoothed time before it (appendix A.7), and that an eighth of the way to
-- it.
abbrev pub next_round : ℕ → Rtt → ℕ → ℕ → Rtt
next_round smoothed before delay sample =
    let least = min before.least sample in
    let adjusted = less_delay least delay sample in
    record {
      latest = sample;
      smoothed = Some ((7 * smoothed + adjusted) / 8);
      var = (3 * before.var + (max smoothed adjusted - min smoothed adjusted)) / 4;
      least = least;
    }

-- the first sample, half of which is its variation, or one behind others
abbrev pub round_by : Option ℕ → Rtt → ℕ → ℕ → Rtt
round_by None before delay sample = begun_round sample (sample / 2)
round_by (Some smoothed) before delay sample = next_round smoothed before delay sample

-- the estimate with one more sample, of which the peer held its acknowledgement back for so long
abbrev pub round_with : Rtt → ℕ → ℕ → Rtt
round_with before delay sample = round_by before.smoothed before delay sample

-- how long a round trip is expected to take: the smoothed time, or the assumed one
abbrev pub expected_round : Rtt → ℕ
expected_round r = unwrap_or r.smoothed r.latest

-- or the latest sample, where that took longer (section 6.1.2)
abbrev pub longest_round : Rtt → ℕ
longest_round r = max (expected_round r) r.latest
