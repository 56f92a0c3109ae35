-- Paths at worked values.
use Rattle.std.specs.Prelude.{ℕ, Bool, true, Some}
use Rattle.quic_config.specs.Transport.{default_transport}
use Rattle.quic_congestion.specs.NewReno.{Reno, default_reno, reno_made}
use Rattle.quic_congestion.specs.Pacer.{after_datagram}
use Rattle.quic_paths.specs.Paths.{PathValue, new_path}

-- made at 0 to address 0 with the default settings, for a peer that takes 65527 bytes
abbrev pub default_path : PathValue Reno
default_path = new_path 0 true (Some 65527) 0 0 default_transport (reno_made default_reno 0 1200) 12000

-- ten datagrams of 1200 bytes took its tokens
abbrev pub drained_path : PathValue Reno
drained_path = record default_path { pacing = after_datagram default_path.pacing 12000 }

-- a path whose peer is validated or not, from which so many bytes came, and to which so many went
abbrev pub met : {C : Type 0} → PathValue C → Bool → ℕ → ℕ → PathValue C
met path validated received sent = record path {
  validated = validated;
  received = received;
  sent = sent;
}
