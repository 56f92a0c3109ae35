use Rattle.std.proofs.Common.{◌≡◌, ◌+◌, take, drop}
use Rattle.quic_sent_packets.specs.Packets.{within}
use Rattle.quic_sent_packets.specs.Places.{numbered}
use Rattle.quic_sent_packets.proofs.ring.Ring.last_within.Given as goal

abbrev pub invariant-loop-index : goal.invariant-loop-index
invariant-loop-index l = within l.low l.high (numbered l.self-inside.base l.self-inside.places.items) ≡ numbered (l.self-inside.base + l.start) (drop l.start (take l.index l.self-inside.places.items))
