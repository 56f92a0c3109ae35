use Rattle.quic_congestion.proofs.SizedSearch.{sized_acked}
use Rattle.quic_connection_core.proofs.Rooms.{sized_told}
use Rattle.quic_connection_core.proofs.connection.Connection.search_acked.Goals as goal

pub invariant_of-self : goal.invariant_of-self
invariant_of-self g c =
    let i = c.self.invariant in
    let x = c.self.inside in
    let limit = x.peer_params.max_udp_payload_size in
    let sized = (sized_acked 1200 limit c.args.number c.args.size x.path.discovery i.2.sized).0 in
    let sizes = rw c.path_acked.ensures.told at c.path_acked.ensures.sizes in
    rw c.path_acked.ensures.told (i.0, i.1, sized_told _ _ _ _ limit x.path.discovery _ _ sized sizes i.2, i.3, i.4, i.5, i.6)
