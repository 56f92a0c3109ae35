use Rattle.std.proofs.Common.{ap, arith}
use Rattle.quic_streams_parts.specs.TableLaws.{sorted-added}
use Rattle.quic_sent_packets.specs.declared.counts.Counts.{Counts}
use Rattle.quic_sent_packets.specs.Counts.{of_one, counts_against}
use Rattle.quic_sent_packets.proofs.Counting.{added_counted, within_asking, within_in_flight}
use Rattle.quic_sent_packets.proofs.sent_packets.SentPackets.insert.Goals as goal

pub take-requires-clause-asking : goal.take-requires-clause-asking
take-requires-clause-asking c =
    rw c.as_ref.ensures.value (within_asking c.self.inside.counts c.self.inside.packets c.args.number c.in_ok-replaced.replaced c.self.invariant c.in_ok-replaced.ensures.replaced)

pub take-requires-clause-in_flight : goal.take-requires-clause-in_flight
take-requires-clause-in_flight c =
    rw c.as_ref.ensures.value (within_in_flight c.self.inside.counts c.self.inside.packets c.args.number c.in_ok-replaced.replaced c.self.invariant c.in_ok-replaced.ensures.replaced)

pub invariant_of-self-2 : goal.invariant_of-self-2
invariant_of-self-2 c =
    let asking = ap (of_one (λ p. p.asks)) c.as_ref.ensures.value in
    let in_flight = ap (of_one counts_against) c.as_ref.ensures.value in
    let one = ap (λ (n : Counts). n.asking) c.of-counts.ensures in
    let other = ap (λ (n : Counts). n.in_flight) c.of-counts.ensures in
    rw c.in_ok-replaced.ensures.ok
    (added_counted c.self.inside.counts c.add.new.self c.self.inside.packets c.args.number c.args.packet c.in_ok-replaced.replaced c.self.invariant c.in_ok-replaced.ensures.replaced (omega arith) (omega arith))

pub returns-clause-still : goal.returns-clause-still
returns-clause-still c = rw c.in_ok-replaced.ensures.ok (sorted-added c.self.inside.packets c.args.number c.args.packet c.self.invariant.ascends)
