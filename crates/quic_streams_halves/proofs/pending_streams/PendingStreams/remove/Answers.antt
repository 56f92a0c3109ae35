use Rattle.quic_streams_halves.proofs.QueuedIds.{ids_removed}
use Rattle.quic_streams_halves.proofs.pending_streams.PendingStreams.remove.Goals as goal

pub invariant_of-self : goal.invariant_of-self
invariant_of-self c = rw c.remove.ensures (ids_removed _ _ c.self.invariant)
