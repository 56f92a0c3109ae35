use Rattle.std.proofs.Common.{◌≡◌, ◌≤◌, length}
use Rattle.quic_wire.specs.Items.{items, without_padding}
use Rattle.quic_wire.proofs.frame.unpadded.behind_zeros.Given as goal

abbrev pub invariant-loop-behind : goal.invariant-loop-behind
invariant-loop-behind l = record {
  same : without_padding (items l.bytes) ≡ without_padding (items l.rest);
  few : length l.rest ≤ length l.bytes;
}

abbrev pub decreases-loop-behind : goal.decreases-loop-behind
decreases-loop-behind l = length l.rest
