use Rattle.quic_connection_core.proofs.Rooms.{stays_sized}
use Rattle.quic_connection_core.proofs.connection.Connection.tell_acked.Goals as goal

pub invariant_of-self : goal.invariant_of-self
invariant_of-self g c =
    let i = c.self.invariant in
    let room = rw c.tell_ack.ensures.told at c.tell_ack.ensures.room in
    rw c.tell_ack.ensures.told (i.0, i.1, stays_sized _ _ _ _ _ _ _ room i.2, i.3, i.4, i.5, i.6)
