use Rattle.std.proofs.Common.{◌≡◌, length}
use Rattle.quic_send_buffer.specs.KeptBytes.{ending_behind}
use Rattle.quic_send_buffer.proofs.send_buffer.pieces.drop_up_to.Given as goal

-- what shall go of the rest is what shall go of all
abbrev pub invariant-loop-stretches : goal.invariant-loop-stretches
invariant-loop-stretches l = ending_behind l.up_to l.stretches ≡ ending_behind l.fn.up_to l.fn.stretches

abbrev pub decreases-loop-stretches : goal.decreases-loop-stretches
decreases-loop-stretches l = length l.stretches
