use Rattle.std.proofs.Common.{◌≤◌, length}
use Rattle.quic_send_buffer.specs.Source.{without_front, FitsFront, IsBehind}
use Rattle.quic_send_buffer.proofs.bytes_source.skip_empty.Given as goal

-- the rest is what was given without some empty buffers
abbrev pub invariant-loop-first : goal.invariant-loop-first
invariant-loop-first l = record {
  fits : FitsFront l.used l.rest;
  same : IsBehind (without_front l.fn.taken l.fn.chunks) (without_front l.used l.rest);
  fewer : length l.rest ≤ length l.fn.chunks;
}

abbrev pub decreases-loop-first : goal.decreases-loop-first
decreases-loop-first l = length l.rest
