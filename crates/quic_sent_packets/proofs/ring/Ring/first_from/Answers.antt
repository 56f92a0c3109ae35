use Rattle.quic_sent_packets.proofs.Scanning.{from_places}
use Rattle.quic_sent_packets.proofs.ring.Ring.first_from.Goals as goal

pub loop-index-init : goal.loop-index-init
loop-index-init c = from_places c.self.inside.base c.args.low c.saturating_sub-start.result c.self.inside.places.items c.saturating_sub-start.ensures
