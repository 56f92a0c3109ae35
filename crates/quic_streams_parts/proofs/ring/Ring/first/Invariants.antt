use Rattle.std.proofs.Common.{◌≡◌, ◌+◌, drop}
use Rattle.quic_streams_parts.specs.Slots.{numbered, first_value}
use Rattle.quic_streams_parts.proofs.ring.Ring.first.Given as goal

abbrev pub invariant-loop-index : goal.invariant-loop-index
invariant-loop-index g l = first_value (numbered l.self-inside.base l.self-inside.slots.items) ≡ first_value (numbered (l.self-inside.base + l.index) (drop l.index l.self-inside.slots.items))
