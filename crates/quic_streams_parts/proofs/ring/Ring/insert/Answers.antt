use Rattle.std.proofs.Common.{ap, ◌∙◌, set, arith}
use Rattle.quic_streams_parts.specs.Table.{at, added}
use Rattle.quic_streams_parts.specs.Slots.{Slots, held}
use Rattle.quic_streams_parts.proofs.Looked.{slot_found, slot_set}
use Rattle.quic_streams_parts.proofs.ring.Ring.insert.Goals as goal

pub returns-clause-replaced : goal.returns-clause-replaced
returns-clause-replaced g c =
    let base = ap (λ (p : Slots g.row.T.Denot). p.base) c.self.view_is in
    let same = c.in_ok-widen.ensures.held c.self.inside.base ∙ ap held c.self.view_is in
    let long = c.in_ok-widen.ensures.ok in
    c.replace.ensures.value
    ∙ slot_found c.self.inside.base c.args.number c.widen.new.slots.items (omega arith) c.index_mut.result.now (omega arith) c.index_mut.ensures.value
    ∙ ap (λ es. at es c.args.number) same

pub returns-clause-ok : goal.returns-clause-ok
returns-clause-ok g c =
    let base = ap (λ (p : Slots g.row.T.Denot). p.base) c.self.view_is in
    let same = c.in_ok-widen.ensures.held c.self.inside.base ∙ ap held c.self.view_is in
    let long = c.in_ok-widen.ensures.ok in
    slot_set c.self.inside.base c.args.number c.widen.new.slots.items (omega arith) _ c.args.value (omega arith) (ap (set c.widen.new.slots.items _) c.replace.ensures.after)
    ∙ ap (λ es. added es c.args.number c.args.value) same
