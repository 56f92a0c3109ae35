use Rattle.quic_sent_packets.proofs.Counting.{any_in_flight}
use Rattle.quic_sent_packets.proofs.sent_packets.SentPackets.has_in_flight.Goals as goal

pub returns : goal.returns
returns c = rw (← c.self.view_is) (any_in_flight c.self.inside.counts c.self.inside.packets c.self.invariant)
