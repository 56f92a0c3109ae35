use Rattle.std.proofs.Common.{refl}
use Rattle.quic_congestion.proofs.SizedSearch.{sized_polled}
use Rattle.quic_connection_core.proofs.Rooms.{sized_still}
use Rattle.quic_connection_core.proofs.connection.Connection.ask_search.Goals as goal

pub invariant_of-self : goal.invariant_of-self
invariant_of-self g c =
    let i = c.self.invariant in
    let x = c.self.inside in
    let limit = x.peer_params.max_udp_payload_size in
    let sized = sized_polled 1200 limit c.clock-now.result c.number-number.result x.path.discovery i.2.sized in
    rw c.poll_search.ensures.path (i.0, i.1, sized_still _ _ _ limit x.path.discovery _ _ sized refl i.2, i.3, i.4, i.5, i.6)
