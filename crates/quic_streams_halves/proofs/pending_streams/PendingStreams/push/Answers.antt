use Rattle.quic_streams_halves.proofs.QueuedIds.{ids_inserted}
use Rattle.quic_streams_halves.proofs.pending_streams.PendingStreams.push.Goals as goal

pub invariant_of-self-2 : goal.invariant_of-self-2
invariant_of-self-2 c = rw c.in_ok-place.ensures.new (ids_inserted _ _ _ c.into_inner.ensures.bound c.self.invariant)
