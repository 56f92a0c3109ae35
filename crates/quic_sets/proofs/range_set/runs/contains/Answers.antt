use Rattle.std.proofs.Common.{◌<◌, length, arith}
use Rattle.std.proofs.lemmas.Bool.{leb-true, le-leb, ltb-true}
use Rattle.quic_sets.proofs.RunLists.{has_at}
use Rattle.quic_sets.proofs.RunEdits.{empty, starts_below, lacks_all}
use Rattle.quic_sets.proofs.range_set.runs.contains.Goals as goal

pub returns-then-place-runs : goal.returns-then-place-runs
returns-then-place-runs c =
    let rs = c.args.runs.now in
    let place = c.ending_by-place.result in
    let within : place < length rs = c.if-place-runs.true in
    let above = c.ending_by-place.ensures.back place empty (omega arith) within in
    (λ e. has_at rs place c.args.x empty within (leb-true _ _ e, above), λ h. le-leb _ _ (starts_below rs c.args.x place c.requires c.ending_by-place.ensures.front within h))

pub returns-else-place-runs : goal.returns-else-place-runs
returns-else-place-runs c =
    let rs = c.args.runs.now in
    let place = c.ending_by-place.result in
    (λ e. absurd (let lt = ltb-true _ _ e in omega (arith, lt, c.if-place-runs.false)), λ h. absurd (lacks_all rs c.args.x place c.ending_by-place.ensures.front c.if-place-runs.false h))
