use Rattle.std.proofs.Common.{sym, ap, refl, arith}
use Rattle.quic_streams_parts.specs.Slots.{Slots}
use Rattle.quic_streams_parts.proofs.Looked.{past, slot_found, slot_past}
use Rattle.quic_streams_parts.proofs.ring.Ring.get.Goals as goal

pub returns-in-Some : goal.returns-in-Some
returns-in-Some g c =
    let base = ap (λ (p : Slots g.row.T.Denot). p.base) c.self.view_is in
    let within = c.in-Some.ensures.variant.0 refl in
    let len = c.self.inside.slots.ok.0 in
    rw (c.value_in.ensures, ← c.self.view_is) (slot_found c.self.inside.base c.args.number c.self.inside.slots.items (omega arith) c.in-Some.slot.now (omega arith) c.in-Some.ensures.lookup)

pub returns-in-None : goal.returns-in-None
returns-in-None g c =
    let base = ap (λ (p : Slots g.row.T.Denot). p.base) c.self.view_is in
    let outside = past _ _ c.in-None.ensures.variant.1 in
    let len = c.self.inside.slots.ok.0 in
    rw (← c.self.view_is) (sym (slot_past c.self.inside.base c.args.number c.self.inside.slots.items (omega arith) (omega arith)))
