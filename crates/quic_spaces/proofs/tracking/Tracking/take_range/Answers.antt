use Rattle.std.proofs.Common.{sym, ap, ◌∙◌}
use Rattle.quic_sent_packets.specs.Packets.{TrackedPacket}
use Rattle.quic_streams_parts.specs.Table.{Table}
use Rattle.quic_spaces.proofs.NamedLaws.{all_outside}
use Rattle.quic_spaces.proofs.tracking.Tracking.take_range.Goals as goal

pub returns-clause-left : goal.returns-clause-left
returns-clause-left c =
    let i = c.loop-number.invariant in
    let n = c.in_default.ensures.none in
    n.1 ∙ i.others ∙ ap (λ (es : Table TrackedPacket). record c.args.self.now { packets = es }) (sym (all_outside c.args.low c.loop-number.high c.loop-number.self.packets n.0) ∙ i.left)
