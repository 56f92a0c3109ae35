use Rattle.quic_congestion.proofs.SizedSearch.{sized_asked}
use Rattle.quic_connection_core.proofs.Rooms.{sized_told}
use Rattle.quic_connection_core.proofs.connection.Connection.ask_size.Goals as goal

pub invariant_of-self : goal.invariant_of-self
invariant_of-self g c =
    let i = c.self.invariant in
    let x = c.self.inside in
    let limit = x.peer_params.max_udp_payload_size in
    let sized = sized_asked 1200 limit c.clock-now.result x.path.discovery i.2.sized in
    let sizes = rw c.path_asked.ensures.told at c.path_asked.ensures.sizes in
    rw c.path_asked.ensures.told (i.0, i.1, sized_told _ _ _ _ limit x.path.discovery _ _ sized sizes i.2, i.3, i.4, i.5, i.6)
