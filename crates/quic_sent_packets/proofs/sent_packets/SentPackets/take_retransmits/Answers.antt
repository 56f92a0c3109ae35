use Rattle.quic_sent_packets.proofs.Counting.{taken_counted}
use Rattle.quic_sent_packets.proofs.sent_packets.SentPackets.take_retransmits.Goals as goal

pub invariant_of-self : goal.invariant_of-self
invariant_of-self c = taken_counted c.self.inside.counts c.self.inside.packets c.take_retransmits.new.self c.args.number c.self.invariant c.take_retransmits.ensures.left c.take_retransmits.ensures.unchanged

pub returns-clause-still : goal.returns-clause-still
returns-clause-still c = (taken_counted c.self.inside.counts c.self.inside.packets c.take_retransmits.new.self c.args.number c.self.invariant c.take_retransmits.ensures.left c.take_retransmits.ensures.unchanged).ascends
