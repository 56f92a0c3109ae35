use Rattle.std.proofs.Common.{map, sym, ◌∙◌}
use Rattle.quic_sets.specs.Loose.{as_run}
use Rattle.quic_sets.proofs.Offsets.Edits.{has_by}
use Rattle.quic_sets.proofs.Offsets.Loose.{runs_have}
use Rattle.quic_sets.proofs.Offsets.OffsetCalls.{spanned_is}
use Rattle.quic_sets.proofs.offset_set.OffsetSet.has.Goals as goal

pub returns : goal.returns
returns c =
    let o = c.args.offset in
    let es = c.self.inside.spans.entries in
    let e = c.look.ensures.held ∙ spanned_is o es c.self.invariant.loose in
    let have = runs_have o es in
    rw (← c.self.view_is) (has_by c.look.result.0 (map as_run es) o (λ h. e ∙ have.0 h, λ t. have.1 (sym e ∙ t)))
