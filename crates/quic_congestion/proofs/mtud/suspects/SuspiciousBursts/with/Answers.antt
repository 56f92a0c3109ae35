use Rattle.std.proofs.Common.{[], ◌∷◌, ap, ◌∙◌}
use Rattle.quic_congestion.specs.Bursts.{kept_with}
use Rattle.quic_congestion.proofs.Places.{passed_on_sizes, stays_ordered}
use Rattle.quic_congestion.proofs.mtud.suspects.SuspiciousBursts.with.Goals as goal

pub invariant_of-result : goal.invariant_of-result
invariant_of-result c =
    let one = c.exchanged-first.ensures in
    let two = c.exchanged-second.ensures in
    let three = c.exchanged-third.ensures in
    let four = c.exchanged-fourth.ensures in
    let h = c.self.invariant in
    rw (four.stays, three.stays, two.stays, one.stays, three.goes_on, two.goes_on, one.goes_on)
    (stays_ordered _ _ _ h.0, (stays_ordered _ _ _ h.1.0, (stays_ordered _ _ _ h.1.1.0, tt)))

pub returns : goal.returns
returns c =
    let one = c.exchanged-first.ensures in
    let two = c.exchanged-second.ensures in
    let three = c.exchanged-third.ensures in
    let four = c.exchanged-fourth.ensures in
    let s = c.self.inside in
    rw (four.stays, three.stays, two.stays, one.stays, three.goes_on, two.goes_on, one.goes_on)
    (passed_on_sizes c.args.size (s.first ∷ s.second ∷ s.third ∷ s.fourth ∷ []) c.self.invariant ∙ ap (kept_with c.args.size) c.self.view_is)
