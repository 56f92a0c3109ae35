use Rattle.quic_connection_parts.proofs.Flights.{next_flies, path_next}
use Rattle.quic_connection_parts.proofs.acked.leave_all.Goals as goal

pub leave_flight-requires : goal.leave_flight-requires
leave_flight-requires g c =
    let path = c.args.path.now in
    rw c.loop-packet.invariant (next_flies path.generation c.args.acked.now c.loop-packet.packet-index c.loop-packet-item.result path.in_flight c.requires c.loop-packet-test.true c.loop-packet-item.is)

pub loop-packet-preserved : goal.loop-packet-preserved
loop-packet-preserved g c =
    path_next c.args.path.now c.loop-packet.path c.leave_flight.new.path c.args.acked.now c.loop-packet.packet-index c.loop-packet-item.result c.loop-packet-test.true c.loop-packet-item.is c.loop-packet.invariant c.leave_flight.ensures
