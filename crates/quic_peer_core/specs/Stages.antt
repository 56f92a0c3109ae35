-- The stage that a runner is at.
use Rattle.std.specs.Option.{option_map}
use Rattle.quic_peer_core.specs.declared.runner.Peer.{Peer}
use Rattle.quic_peer_core.specs.Peer.{Stage}

-- how far a runner is
abbrev pub stage_of : Peer → Stage
stage_of peer = record { options = peer.options; hears = peer.hears; end = option_map (λ b. b.value) peer.end }
