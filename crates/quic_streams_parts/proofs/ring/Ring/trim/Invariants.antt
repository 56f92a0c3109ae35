use Rattle.std.proofs.Common.{◌≡◌, ◌+◌, ◌≤◌, length}
use Rattle.quic_streams_parts.specs.Slots.{held, numbered, IsShort}
use Rattle.quic_streams_parts.proofs.ring.Ring.trim.Given as goal

abbrev pub invariant-loop-self : goal.invariant-loop-self
invariant-loop-self g l = record {
  short : IsShort (record { base = l.self-inside.base; slots = l.self-inside.slots.items });
  held : numbered l.self-inside.base l.self-inside.slots.items ≡ held l.fn.self;
  base : l.fn.self.base ≤ l.self-inside.base;
  fewer : length l.self-inside.slots.items ≤ length l.fn.self.slots;
  end : l.self-inside.base + length l.self-inside.slots.items ≤ l.fn.self.base + length l.fn.self.slots;
}

abbrev pub decreases-loop-self : goal.decreases-loop-self
decreases-loop-self g l = length l.self-inside.slots.items
