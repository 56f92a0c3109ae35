use Rattle.std.proofs.Common.{sym, ◌∙◌, refl}
use Rattle.quic_sent_packets.specs.Places.{held}
use Rattle.quic_sent_packets.proofs.Ranges.{between_from}
use Rattle.quic_sent_packets.proofs.Ends.{first_of_both}
use Rattle.quic_sent_packets.proofs.packet_map.PacketMap.first_from.Goals as goal

pub returns-in-Some : goal.returns-in-Some
returns-in-Some c =
    let m = c.self.inside in
    let is = sym (between_from _ c.args.low m.earlier.entries refl) ∙ sym (c.range.ensures.between tt) ∙ c.in-Some.ensures.steps in
    rw (← c.self.view_is) (sym (first_of_both c.args.low m.earlier.entries (held m.ring) (c.in-Some.number.now, c.in-Some.field-0-1.now) c.next.new.self is))
