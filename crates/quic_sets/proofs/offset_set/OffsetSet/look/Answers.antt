use Rattle.std.proofs.Common.{sym, ◌∙◌, ◌+◌}
use Rattle.quic_sets.proofs.Offsets.Spans.{look_some}
use Rattle.quic_sets.proofs.Offsets.Loose.{runs_have}
use Rattle.quic_sets.proofs.Offsets.LooseSteps.{look_as}
use Rattle.quic_sets.proofs.Offsets.OffsetCalls.{look_most}
use Rattle.quic_sets.proofs.offset_set.OffsetSet.look.Goals as goal

pub returns-clause-some : goal.returns-clause-some
returns-clause-some c = (look_some c.args.at _ c.args.len c.self.inside.spans.entries _ c.requires.some c.look.ensures.held c.look.ensures.count).0

pub returns-clause-within : goal.returns-clause-within
returns-clause-within c = (look_some c.args.at _ c.args.len c.self.inside.spans.entries _ c.requires.some c.look.ensures.held c.look.ensures.count).1

pub returns-clause-alike : goal.returns-clause-alike
returns-clause-alike c = λ o l m.
    let es = c.self.inside.spans.entries in
    let e = look_as c.args.at c.args.len c.look.result.1 o es c.look.result.0 c.self.invariant.loose c.look.ensures.held c.look.ensures.count l m in
    let has = runs_have o es in
    rw (← c.self.view_is) (λ h. sym e ∙ has.0 h, λ t. has.1 (e ∙ t))

pub returns-clause-most : goal.returns-clause-most
returns-clause-most c = λ l.
    let es = c.self.inside.spans.entries in
    let e = look_most c.args.at c.args.len c.look.result.1 es c.look.result.0 c.self.invariant c.look.ensures.held c.look.ensures.count l in
    let has = runs_have (c.args.at + c.look.result.1) es in
    rw (← c.self.view_is) (λ h. sym e ∙ has.0 h, λ t. has.1 (e ∙ t))
