use Rattle.std.proofs.Common.{sym, ap, refl, set, arith}
use Rattle.quic_streams_parts.specs.Slots.{Slots}
use Rattle.quic_streams_parts.proofs.Looked.{past, slot_found, slot_past, without_past, slot_cleared}
use Rattle.quic_streams_parts.proofs.ring.Ring.remove.Goals as goal

pub returns-in_default-clause-taken : goal.returns-in_default-clause-taken
returns-in_default-clause-taken g c =
    let base = ap (λ (p : Slots g.row.T.Denot). p.base) c.self.view_is in
    let outside = past _ _ c.in_default.ensures.variant.1 in
    let len = c.self.inside.slots.ok.0 in
    rw (← c.self.view_is) (sym (slot_past c.self.inside.base c.args.number c.self.inside.slots.items (omega arith) (omega arith)))

pub returns-in_default-clause-left : goal.returns-in_default-clause-left
returns-in_default-clause-left g c =
    let base = ap (λ (p : Slots g.row.T.Denot). p.base) c.self.view_is in
    let outside = past _ _ c.in_default.ensures.variant.1 in
    let len = c.self.inside.slots.ok.0 in
    rw (← c.self.view_is) (sym (without_past c.self.inside.base c.args.number c.self.inside.slots.items (omega arith) (omega arith)))

pub returns-clause-taken : goal.returns-clause-taken
returns-clause-taken g c =
    let base = ap (λ (p : Slots g.row.T.Denot). p.base) c.self.view_is in
    let within = c.in-Some.ensures.variant.0 refl in
    let len = c.self.inside.slots.ok.0 in
    rw (c.take-value.ensures.value, ← c.self.view_is) (slot_found c.self.inside.base c.args.number c.self.inside.slots.items (omega arith) c.in-Some.slot.now (omega arith) c.in-Some.ensures.value)

pub returns-clause-left : goal.returns-clause-left
returns-clause-left g c =
    let base = ap (λ (p : Slots g.row.T.Denot). p.base) c.self.view_is in
    rw (c.trim.ensures.held, ← c.self.view_is)
    (slot_cleared c.self.inside.base c.args.number c.self.inside.slots.items (omega arith) _ (ap (set c.self.inside.slots.items _) c.take-value.ensures.after))
