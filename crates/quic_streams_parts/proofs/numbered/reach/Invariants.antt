use Rattle.std.proofs.Common.{◌≡◌, ◌-◌, ◌≤◌, length}
use Rattle.quic_streams_parts.specs.Woven.{woven}
use Rattle.quic_streams_parts.proofs.numbered.reach.Given as goal

abbrev pub invariant-loop-alloc : goal.invariant-loop-alloc
invariant-loop-alloc g l = record {
  same : woven 0 l.kinds.items ≡ woven 0 l.fn.kinds.items;
  few : length l.kinds.items ≤ 4;
}

abbrev pub decreases-loop-alloc : goal.decreases-loop-alloc
decreases-loop-alloc g l = 4 - length l.kinds.items
