use Rattle.std.proofs.Common.{length}
use Rattle.quic_connection_parts.proofs.Told.{Acks}
use Rattle.quic_connection_core.proofs.connection.Connection.on_packets_acked.Given as goal

abbrev pub invariant-loop-number : goal.invariant-loop-number
invariant-loop-number g l = Acks g.C.Controller.steps l.initial.self l.initial.acked.items l.self l.acked.items

abbrev pub decreases-loop-number : goal.decreases-loop-number
decreases-loop-number g l = length l.acked.items
