-- Paths at worked values. Times are in nanoseconds, sizes in bytes.
use Rattle.std.specs.Prelude.{ℕ, ◌*◌, true, None}
use Rattle.quic_time.specs.Rtt.{with_sample}
use Rattle.quic_config.specs.Transport.{default_transport}
use Rattle.quic_congestion.specs.NewReno.{Reno, default_reno, reno_made}
use Rattle.quic_paths.specs.Paths.{PathValue, new_path, path_with}

-- so many milliseconds
abbrev pub millis : ℕ → ℕ
millis n = n * 1000000

-- a path of some generation, made at 0 with the default settings
abbrev pub fresh_path : ℕ → PathValue Reno
fresh_path generation = new_path 0 true None generation 0 default_transport (reno_made default_reno 0 1200) 12000

-- one whose peer is validated: a round trip took 40 ms, and 1200 bytes are in flight
abbrev pub used_path : PathValue Reno
used_path = path_with (record (fresh_path 0) { rtt = with_sample (fresh_path 0).rtt 0 (millis 40); validated = true }) 1200 true
