use Rattle.std.proofs.Common.{◌+◌, ◌-◌, min, length, sym, ap, ◌∙◌, arith}
use Rattle.std.specs.Option.{option_map}
use Rattle.quic_sent_packets.specs.Packets.{newest}
use Rattle.quic_sent_packets.specs.Places.{Places}
use Rattle.quic_sent_packets.proofs.Scanning.{within_places, down_empty, down_found}
use Rattle.quic_sent_packets.proofs.ring.Ring.last_within.Goals as goal

pub loop-index-init : goal.loop-index-init
loop-index-init c =
    let same = ap (λ (p : Places). min (c.args.high + 1 - p.base) (length p.places)) c.self.view_is in
    within_places c.self.inside.base c.args.low c.args.high c.saturating_sub-start.result c.places_up_to-end.result c.self.inside.places.items c.saturating_sub-start.ensures (c.places_up_to-end.ensures ∙ sym same)

pub loop-index-preserved : goal.loop-index-preserved
loop-index-preserved c =
    let same = ap (λ (p : Places). min (c.args.high + 1 - p.base) (length p.places)) c.self.view_is in
    let end = c.places_up_to-end.ensures in
    c.loop-index.invariant
    ∙ down_empty c.self.inside.base c.saturating_sub-start.result c.loop-index.index (c.loop-index.index - 1) c.self.inside.places.items c.index.result.now (omega arith) (omega arith) (omega arith) c.index.ensures (sym c.is_some.ensures ∙ c.if-is_some.false)

pub returns-then-is_some : goal.returns-then-is_some
returns-then-is_some c =
    let same = ap (λ (p : Places). min (c.args.high + 1 - p.base) (length p.places)) c.self.view_is in
    let end = c.places_up_to-end.ensures in
    let found = down_found c.self.inside.base c.saturating_sub-start.result c.loop-index.index (c.loop-index.index - 1) c.self.inside.places.items c.index.result.now (omega arith) (omega arith) (omega arith) c.index.ensures (sym c.is_some.ensures ∙ c.if-is_some.true) in
    rw (← c.self.view_is) (sym (ap (λ es. option_map (λ p. p.0) (newest es)) c.loop-index.invariant ∙ found))
