use Rattle.std.proofs.Common.{◌<◌}
use Rattle.quic_streams_parts.proofs.Parted.{all_removed}
use Rattle.quic_streams_parts.proofs.pending_queue.PendingStreamsQueue.remove.Goals as goal

pub invariant_of-self : goal.invariant_of-self
invariant_of-self c = record { earlier = rw c.remove.ensures (all_removed (λ k. k.1 < c.self.inside.next) _ _ c.self.invariant.earlier) }
