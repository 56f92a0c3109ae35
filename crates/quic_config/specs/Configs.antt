-- How the size search and the acknowledgements of the peer are configured.
use Rattle.std.specs.Prelude.{ℕ, Option, None}

-- the greatest UDP payload that an end takes and sends, in bytes (RFC 9000, section 18.2,
-- max_udp_payload_size: the greatest that there is)
abbrev pub max_udp_payload : ℕ
max_udp_payload = 65527

-- how many ids of its peer an end keeps (RFC 9000, section 18.2, active_connection_id_limit: at
-- least two; eight are our choice)
abbrev pub ids_kept : ℕ
ids_kept = 8

-- a search again after the interval, up to the bound, after a black hole when it has cooled down,
-- in steps of at least the least change
pub record SearchSettings : Type 0 where
  pub interval : ℕ
  pub upper_bound : ℕ
  pub cooldown : ℕ
  pub least_change : ℕ

-- every 600 seconds up to 1452 bytes, 60 seconds after a black hole, in steps of 20 bytes
abbrev pub default_search : SearchSettings
default_search = record { interval = 600000000000; upper_bound = 1452; cooldown = 60000000000; least_change = 20 }

-- how many packets that ask may come before an acknowledgement goes, how long it may be held back,
-- and how far out of order packets may come
pub record FrequencySettings : Type 0 where
  pub threshold : ℕ
  pub max_delay : Option ℕ
  pub reordering : ℕ

-- more than one packet, the peer's own delay, two packets out of order
abbrev pub default_frequency : FrequencySettings
default_frequency = record { threshold = 1; max_delay = None; reordering = 2 }
