use Rattle.std.proofs.Common.{◌≡◌, ◌+◌, ◌≤◌, length}
use Rattle.quic_streams_state.specs.Writing.{used_up}
use Rattle.quic_streams_state.proofs.chunks.used_up.Given as goal

-- those that are passed are used up
abbrev pub invariant-loop-chunk : goal.invariant-loop-chunk
invariant-loop-chunk l = record {
  passed : used_up l.left l.rest + length l.fn.chunks ≡ used_up l.fn.len l.fn.chunks + length l.rest;
  fewer : length l.rest ≤ length l.fn.chunks;
}

abbrev pub decreases-loop-chunk : goal.decreases-loop-chunk
decreases-loop-chunk l = length l.rest
