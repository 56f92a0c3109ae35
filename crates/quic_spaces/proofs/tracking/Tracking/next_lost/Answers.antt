use Rattle.std.proofs.Common.{◌≡◌, [], subst, sym, ap, ◌∙◌}
use Rattle.std.specs.Option.{option_map}
use Rattle.quic_streams_parts.specs.Table.{Table}
use Rattle.quic_sent_packets.specs.Packets.{TrackedPacket, oldest, from}
use Rattle.quic_spaces.specs.Loss.{Verdict}
use Rattle.quic_spaces.specs.Walks.{up_to}
use Rattle.quic_spaces.proofs.WalkLaws.{none_lost}
use Rattle.quic_spaces.proofs.tracking.Tracking.next_lost.Goals as goal

pub returns : goal.returns
returns c =
    let none_up = subst (λ (v : Verdict). up_to v.greatest (from c.loop-number.low c.args.self.now.packets) ≡ []) c.verdict.view_is c.in_default.ensures.none in
    let none = sym (none_lost c.args.verdict.now (from c.loop-number.low c.args.self.now.packets) none_up) ∙ c.loop-number.invariant in
    ap (λ (l : Table TrackedPacket). option_map (λ p. p.0) (oldest l)) none
