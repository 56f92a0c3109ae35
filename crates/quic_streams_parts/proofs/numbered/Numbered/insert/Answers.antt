use Rattle.std.proofs.Common.{ap, ◌∙◌, set}
use Rattle.std.proofs.lemmas.Result.{on_ok_weaker}
use Rattle.quic_streams_parts.specs.Table.{added}
use Rattle.quic_streams_parts.specs.Woven.{woven}
use Rattle.quic_streams_parts.proofs.Woven.{sorted-woven, found_at, one_added}
use Rattle.quic_streams_parts.proofs.numbered.Numbered.insert.Goals as goal

pub returns-in_err-kept-clause-was_ordered : goal.returns-in_err-kept-clause-was_ordered
returns-in_err-kept-clause-was_ordered g c = rw (← c.self.view_is) (sorted-woven 0 c.self.inside.kinds.items)

pub returns-in_err-reach-clause-was_ordered : goal.returns-in_err-reach-clause-was_ordered
returns-in_err-reach-clause-was_ordered g c = rw (← c.self.view_is) (sorted-woven 0 c.self.inside.kinds.items)

pub returns-clause-replaced : goal.returns-clause-replaced
returns-clause-replaced g c =
    let same = c.reach.ensures.same ∙ c.self.view_is in
    rw (← same, found_at c.reach.new.kinds.items c.reach.ensures.few c.args.number c.kind_of-kind.result c.kind_of-kind.ensures c.index_mut.result.now c.in_ok-reach.ensures.there c.index_mut.ensures.value) c.insert.ensures.replaced

pub returns-clause-ok : goal.returns-clause-ok
returns-clause-ok g c =
    let same = c.reach.ensures.same ∙ c.self.view_is in
    let ts = c.reach.new.kinds.items in
    rw (← same)
    (on_ok_weaker c.insert.result
    (λ e. ap (λ u. woven 0 (set ts c.kind_of-kind.result u)) e
    ∙ one_added ts c.reach.ensures.few c.args.number c.kind_of-kind.result c.kind_of-kind.ensures c.index_mut.result.now c.in_ok-reach.ensures.there c.index_mut.ensures.value _
    ∙ ap (added (woven 0 ts) c.args.number) c.in_ok-kept.ensures)
    c.insert.ensures.ok)

pub returns-clause-was_ordered : goal.returns-clause-was_ordered
returns-clause-was_ordered g c = rw (← c.self.view_is) (sorted-woven 0 c.self.inside.kinds.items)
