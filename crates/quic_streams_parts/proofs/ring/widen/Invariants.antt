use Rattle.std.proofs.Common.{◌≡◌, ◌-◌, ◌≤◌, ℕ, length, max}
use Rattle.quic_streams_parts.specs.Slots.{numbered}
use Rattle.quic_streams_parts.proofs.ring.widen.Given as goal

abbrev pub invariant-loop-slots : goal.invariant-loop-slots
invariant-loop-slots g l = record {
  held : (n : ℕ) → numbered n l.slots.items ≡ numbered n l.fn.slots.items;
  most : length l.slots.items ≤ max l.len (length l.fn.slots.items);
  least : length l.fn.slots.items ≤ length l.slots.items;
  room : l.len ≤ l.slots.cap;
}

abbrev pub decreases-loop-slots : goal.decreases-loop-slots
decreases-loop-slots g l = l.len - l.slots.len
