use Rattle.std.proofs.Common.{sym, ◌∙◌}
use Rattle.quic_streams_parts.specs.TableLaws.{without-unknown}
use Rattle.quic_streams_parts.specs.Woven.{woven}
use Rattle.quic_streams_parts.proofs.Woven.{found_past, found_at, one_without}
use Rattle.quic_streams_parts.proofs.numbered.Numbered.remove.Goals as goal

pub returns-in_default-clause-taken : goal.returns-in_default-clause-taken
returns-in_default-clause-taken g c = rw (← c.self.view_is) (sym (found_past c.self.inside.kinds.items c.self.invariant c.args.number c.kind_of.result c.kind_of.ensures c.in_default.ensures.item.3))

pub returns-in_default-clause-left : goal.returns-in_default-clause-left
returns-in_default-clause-left g c =
    let ts = c.self.inside.kinds.items in
    rw (← c.self.view_is) (sym (without-unknown (woven 0 ts) c.args.number (found_past ts c.self.invariant c.args.number c.kind_of.result c.kind_of.ensures c.in_default.ensures.item.3)))

pub returns-clause-taken : goal.returns-clause-taken
returns-clause-taken g c =
    let found = c.in-Some.ensures.item in
    rw (← c.self.view_is) (c.remove.ensures.taken ∙ sym (found_at c.self.inside.kinds.items c.self.invariant c.args.number c.kind_of.result c.kind_of.ensures c.in-Some.kind.now found.3.0 found.1))

pub returns-clause-left : goal.returns-clause-left
returns-clause-left g c =
    let found = c.in-Some.ensures.item in
    rw (← c.self.view_is)
    (one_without c.self.inside.kinds.items c.self.invariant c.args.number c.kind_of.result c.kind_of.ensures c.in-Some.kind.now found.3.0 found.1 c.remove.new.self c.remove.ensures.left c.remove.ensures.gone)
