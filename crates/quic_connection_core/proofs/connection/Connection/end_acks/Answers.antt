use Rattle.std.proofs.Common.{refl}
use Rattle.quic_connection_core.proofs.Rooms.{stays_sized}
use Rattle.quic_connection_core.proofs.connection.Connection.end_acks.Goals as goal

pub invariant_of-self : goal.invariant_of-self
invariant_of-self g c =
    let i = c.self.invariant in
    let room = rw c.tell_acks_ended.ensures.told at c.tell_acks_ended.ensures.room in
    rw c.tell_acks_ended.ensures.told (i.0, i.1, stays_sized _ _ _ _ _ _ _ room i.2, i.3, i.4, i.5, i.6)

pub returns : goal.returns
returns g c =
    rw (c.tell_acks_ended.ensures.told, c.largest_acked-largest.ensures, c.saturated-in_flight.ensures, c.bytes_in_flight.ensures, c.clock-now.ensures) (rw (← c.self.view_is) refl)
