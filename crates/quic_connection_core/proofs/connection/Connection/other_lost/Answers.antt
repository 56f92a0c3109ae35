use Rattle.std.proofs.Common.{refl}
use Rattle.quic_congestion.specs.Search.{PacketLost}
use Rattle.quic_congestion.proofs.SizedSearch.{keeps_sized}
use Rattle.quic_connection_core.proofs.Rooms.{sized_still}
use Rattle.quic_connection_core.proofs.connection.Connection.other_lost.Goals as goal

pub invariant_of-self : goal.invariant_of-self
invariant_of-self g c =
    let i = c.self.invariant in
    let x = c.self.inside in
    let limit = x.peer_params.max_udp_payload_size in
    rw c.hear_lost.ensures (i.0, i.1, sized_still _ _ _ limit x.path.discovery _ _ (keeps_sized 1200 limit (PacketLost c.args.number c.args.size) x.path.discovery tt i.2.sized) refl i.2, i.3, i.4, i.5, i.6)
