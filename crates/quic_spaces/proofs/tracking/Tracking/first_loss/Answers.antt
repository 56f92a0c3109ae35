use Rattle.std.proofs.Common.{◌≡◌, [], subst, sym, ap, ◌∙◌}
use Rattle.quic_streams_parts.specs.Table.{Table}
use Rattle.quic_sent_packets.specs.Packets.{TrackedPacket, from}
use Rattle.quic_spaces.specs.Loss.{Verdict, loss_time_of}
use Rattle.quic_spaces.specs.Walks.{up_to}
use Rattle.quic_spaces.proofs.WalkLaws.{from_zero, ends}
use Rattle.quic_spaces.proofs.tracking.Tracking.first_loss.Goals as goal

pub loop-number-init : goal.loop-number-init
loop-number-init c = ap (λ (l : Table TrackedPacket). loss_time_of c.args.verdict.now l) (from_zero c.args.self.now.packets)

pub returns : goal.returns
returns c =
    let none_up = subst (λ (v : Verdict). up_to v.greatest (from c.loop-number.low c.args.self.now.packets) ≡ []) c.verdict.view_is c.in_default.ensures.none in
    let v = c.args.verdict.now in
    sym (ends v.greatest v.delay c.loop-number.low c.args.self.now.packets c.loop-number.first none_up) ∙ c.loop-number.invariant
