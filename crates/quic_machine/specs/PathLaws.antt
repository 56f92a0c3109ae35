-- How many bytes the datagrams of a path have.
use Rattle.std.proofs.Common.{◌≡◌, ℕ, Bool, Option, Some, None, min, refl, ap}
use Rattle.quic_config.specs.Configs.{SearchSettings}
use Rattle.quic_config.specs.Transport.{TransportSettings, first_mtu}
use Rattle.quic_congestion.specs.Search.{discovery_by}
use Rattle.quic_machine.specs.Parts.{Windows, first_path, current_mtu}

-- whether or not a greater size is looked for
pub size_by : (search : Option SearchSettings) (size least : ℕ) → (discovery_by search size least None).size ≡ size
size_by None size least = refl
size_by (Some s) size least = refl

-- a path begins with the size that its settings say, or with what the peer takes where that is less
pub first_size : (remote : ℕ) (validated : Bool) (t : TransportSettings) (limit : ℕ) (windows : Windows) (now : ℕ) → current_mtu (first_path remote validated t limit windows now) ≡ min (first_mtu t) limit
first_size remote validated t limit windows now = ap (λ (n : ℕ). min n limit) (size_by t.mtu_discovery_config (first_mtu t) t.min_mtu)
