-- Searches for a larger size at worked values. Times are in nanoseconds, sizes in bytes.
use Rattle.std.specs.Prelude.{ℕ, zero, suc, ◌+◌, ◌*◌, ◌%◌, Bool, nat_le, ◌==◌, List, [], ◌∷◌, fold, Option, Some, None, if◌then◌else◌}
use Rattle.quic_config.specs.Configs.{default_search}
use Rattle.quic_congestion.specs.Search.{Discovery, new_discovery, poll_names, after_poll, after_ack, after_probe_lost, after_packet_lost}

-- so many seconds
abbrev pub seconds : ℕ → ℕ
seconds n = n * 1000000000

-- a search from 1200 bytes on, up to a bound
abbrev pub up_to : ℕ → Discovery
up_to bound = new_discovery 1200 1200 None (record default_search { upper_bound = bound })

-- which probes are acknowledged, by their numbers and sizes; the others are lost
abbrev pub Fate : Type 0
Fate = ℕ → ℕ → Bool

-- those that a path carries, which takes datagrams of so many bytes
abbrev pub carries : ℕ → Fate
carries most number size = nat_le size most

-- each second one, the first of them lost
abbrev pub each_second : Fate
each_second number size = number % 2 == 1

-- the sizes that are probed one after another, and the search behind the last of them
pub record Probed : Type 0 where
  pub sizes : List ℕ
  pub left : Discovery

-- after a probe of this size went under a number, and was acknowledged or lost
abbrev pub after_fate : Fate → ℕ → ℕ → Discovery → Discovery
after_fate fate number size d =
    if fate number size then after_ack number size (after_poll 0 number d)
    else after_probe_lost (after_poll 0 number d)

-- what is probed where a size is named, before these
abbrev pub probed_behind : ℕ → Probed → Probed
probed_behind size others = record { sizes = size ∷ others.sizes; left = others.left }

-- by whether a poll names a size
abbrev pub probed_if : Option ℕ → (Discovery → Probed) → Fate → ℕ → Discovery → Probed
probed_if None others fate number d = record { sizes = []; left = d }
probed_if (Some size) others fate number d = probed_behind size (others (after_fate fate number size d))

-- at most so many probes, at 0 and under ascending numbers
unfoldable pub probed_from : ℕ → ℕ → Fate → Discovery → Probed
probed_from number zero fate d = record { sizes = []; left = d }
probed_from number (suc n) fate d = probed_if (poll_names 0 d) (probed_from (number + 1) n fate) fate number d

-- so many, from number 0 on
unfoldable pub probed : ℕ → Fate → Discovery → Probed
unfolding probed_from
probed n fate d = probed_from 0 n fate d

-- packets of these numbers are lost, which are no probes, each of this size
abbrev pub lost : List ℕ → ℕ → Discovery → Discovery
lost numbers size d = fold (λ e number. after_packet_lost number size e) d numbers
