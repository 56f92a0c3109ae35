use Rattle.std.proofs.Common.{length-append, arith}
use Rattle.quic_sent_packets.specs.Places.{held}
use Rattle.quic_sent_packets.proofs.Ends.{few_held}
use Rattle.quic_sent_packets.proofs.packet_map.PacketMap.most.Goals as goal

pub returns-clause-most : goal.returns-clause-most
returns-clause-most c =
    let m = c.self.inside in
    let few = few_held m.ring.base m.ring.places in
    let long = length-append m.earlier.entries (held m.ring) in
    rw (← c.self.view_is) (omega arith)
