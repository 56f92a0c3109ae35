use Rattle.std.proofs.Common.{◌≡◌, ◌+◌, ◌≤◌, length}
use Rattle.quic_sent_packets.specs.Places.{held, numbered, IsShort}
use Rattle.quic_sent_packets.proofs.ring.Ring.trim.Given as goal

abbrev pub invariant-loop-self : goal.invariant-loop-self
invariant-loop-self l = record {
  short : IsShort (record { base = l.self-inside.base; places = l.self-inside.places.items });
  held : numbered l.self-inside.base l.self-inside.places.items ≡ held l.fn.self;
  base : l.fn.self.base ≤ l.self-inside.base;
  fewer : length l.self-inside.places.items ≤ length l.fn.self.places;
  end : l.self-inside.base + length l.self-inside.places.items ≤ l.fn.self.base + length l.fn.self.places;
}

abbrev pub decreases-loop-self : goal.decreases-loop-self
decreases-loop-self l = length l.self-inside.places.items
