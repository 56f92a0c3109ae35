use Rattle.std.proofs.Common.{Some, sym, ap, ◌∙◌}
use Rattle.quic_streams_parts.proofs.Woven.{found_past, found_at}
use Rattle.quic_streams_parts.proofs.numbered.Numbered.get.Goals as goal

pub returns-in_default : goal.returns-in_default
returns-in_default g c =
    let found = rw c.deref.ensures.value at c.in_default.ensures.lookup in
    rw (← c.self.view_is) (sym (found_past c.self.inside.kinds.items c.self.invariant c.args.number c.kind_of.result c.kind_of.ensures found.3))

pub returns-in-Some-get : goal.returns-in-Some-get
returns-in-Some-get g c =
    let found = rw c.deref.ensures.value at c.in-Some.ensures.lookup in
    rw (← c.self.view_is)
    (ap Some c.get-in-Some-get.ensures ∙ c.in-Some-get.ensures ∙ sym (found_at c.self.inside.kinds.items c.self.invariant c.args.number c.kind_of.result c.kind_of.ensures c.in-Some.kind.now found.3.0 found.1))

pub returns-in-None : goal.returns-in-None
returns-in-None g c =
    let found = rw c.deref.ensures.value at c.in-Some.ensures.lookup in
    rw (← c.self.view_is)
    (c.in-None.ensures ∙ sym (found_at c.self.inside.kinds.items c.self.invariant c.args.number c.kind_of.result c.kind_of.ensures c.in-Some.kind.now found.3.0 found.1))
