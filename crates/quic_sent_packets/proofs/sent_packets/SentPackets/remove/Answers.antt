use Rattle.std.proofs.Common.{ap, arith}
use Rattle.quic_streams_parts.specs.TableLaws.{sorted-without}
use Rattle.quic_sent_packets.specs.Counts.{of_one, counts_against}
use Rattle.quic_sent_packets.proofs.Counting.{without_counted, within_asking, within_in_flight}
use Rattle.quic_sent_packets.proofs.sent_packets.SentPackets.remove.Goals as goal

pub take-requires-clause-asking : goal.take-requires-clause-asking
take-requires-clause-asking c =
    rw c.as_ref.ensures.value (within_asking c.self.inside.counts c.self.inside.packets c.args.number c.remove-packet.result c.self.invariant c.remove-packet.ensures.taken)

pub take-requires-clause-in_flight : goal.take-requires-clause-in_flight
take-requires-clause-in_flight c =
    rw c.as_ref.ensures.value (within_in_flight c.self.inside.counts c.self.inside.packets c.args.number c.remove-packet.result c.self.invariant c.remove-packet.ensures.taken)

pub invariant_of-self : goal.invariant_of-self
invariant_of-self c =
    let asking = ap (of_one (λ p. p.asks)) c.as_ref.ensures.value in
    let in_flight = ap (of_one counts_against) c.as_ref.ensures.value in
    rw c.remove-packet.ensures.left
    (without_counted c.self.inside.counts c.take.new.self c.self.inside.packets c.args.number c.remove-packet.result c.self.invariant c.remove-packet.ensures.taken (omega arith) (omega arith))

pub returns-clause-still : goal.returns-clause-still
returns-clause-still c = rw c.remove-packet.ensures.left (sorted-without c.self.inside.packets c.args.number c.self.invariant.ascends)
