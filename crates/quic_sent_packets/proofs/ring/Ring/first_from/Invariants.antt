use Rattle.std.proofs.Common.{◌≡◌, ◌+◌, drop}
use Rattle.quic_sent_packets.specs.Packets.{from}
use Rattle.quic_sent_packets.specs.Places.{numbered}
use Rattle.quic_sent_packets.proofs.ring.Ring.first_from.Given as goal

abbrev pub invariant-loop-index : goal.invariant-loop-index
invariant-loop-index l = from l.low (numbered l.self-inside.base l.self-inside.places.items) ≡ numbered (l.self-inside.base + l.index) (drop l.index l.self-inside.places.items)
