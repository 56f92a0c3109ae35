use Rattle.std.proofs.Common.{◌≡◌, ◌+◌, ◌-◌, ◌<◌, ◌^◌, min, length}
use Rattle.quic_send_buffer.specs.Source.{bytes_of}
use Rattle.quic_streams_state.proofs.chunks.total_len.Given as goal

-- what was counted and what is left are all
abbrev pub invariant-loop-chunk : goal.invariant-loop-chunk
invariant-loop-chunk l = record {
  counted : min (l.total + bytes_of l.rest) (2 ^ 64 - 1) ≡ min (bytes_of l.fn.chunks) (2 ^ 64 - 1);
  small : l.total < 2 ^ 64;
}

abbrev pub decreases-loop-chunk : goal.decreases-loop-chunk
decreases-loop-chunk l = length l.rest
