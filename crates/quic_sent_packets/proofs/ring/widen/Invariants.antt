use Rattle.std.proofs.Common.{◌≡◌, ◌-◌, ◌≤◌, ℕ, length, max}
use Rattle.quic_sent_packets.specs.Places.{numbered}
use Rattle.quic_sent_packets.proofs.ring.widen.Given as goal

abbrev pub invariant-loop-places : goal.invariant-loop-places
invariant-loop-places l = record {
  held : (n : ℕ) → numbered n l.places.items ≡ numbered n l.fn.places.items;
  most : length l.places.items ≤ max l.len (length l.fn.places.items);
  least : length l.fn.places.items ≤ length l.places.items;
  room : l.len ≤ l.places.cap;
}

abbrev pub decreases-loop-places : goal.decreases-loop-places
decreases-loop-places l = l.len - l.places.len
