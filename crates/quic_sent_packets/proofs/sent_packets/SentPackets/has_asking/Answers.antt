use Rattle.quic_sent_packets.proofs.Counting.{any_asking}
use Rattle.quic_sent_packets.proofs.sent_packets.SentPackets.has_asking.Goals as goal

pub returns : goal.returns
returns c = rw (← c.self.view_is) (any_asking c.self.inside.counts c.self.inside.packets c.self.invariant)
