use Rattle.std.proofs.Common.{arith}
use Rattle.quic_sent_packets.specs.Places.{held}
use Rattle.quic_sent_packets.proofs.Joined.{at_below, at_from}
use Rattle.quic_sent_packets.proofs.Numbered.{all_from}
use Rattle.quic_sent_packets.proofs.packet_map.PacketMap.get.Goals as goal

pub returns-then-number-base : goal.returns-then-number-base
returns-then-number-base c =
    let m = c.self.inside in
    rw (← c.self.view_is, at_below m.ring.base m.earlier.entries (held m.ring) c.args.number (all_from m.ring.base m.ring.places) (omega arith)) c.get.ensures.value

pub returns : goal.returns
returns c =
    let m = c.self.inside in
    rw (← c.self.view_is, at_from m.ring.base m.earlier.entries (held m.ring) c.args.number c.self.invariant (omega arith)) c.get-2.ensures
