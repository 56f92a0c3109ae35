use Rattle.std.proofs.Common.{◌-◌, set, sym, ap, ◌∙◌, refl, arith}
use Rattle.std.proofs.lemmas.List.{set-get_or}
use Rattle.quic_streams_parts.specs.Slots.{Slots}
use Rattle.quic_streams_parts.proofs.Looked.{past, slot_found, slot_past}
use Rattle.quic_streams_parts.proofs.Lent.{same_end}
use Rattle.quic_streams_parts.proofs.ring.Ring.get_mut.Goals as goal

pub returns-in-Some : goal.returns-in-Some
returns-in-Some g c =
    let base = ap (λ (p : Slots g.row.T.Denot). p.base) c.self.view_is in
    let within = c.in-Some.ensures.variant.0 refl in
    let items = c.self.inside.slots.items in
    let len = c.self.inside.slots.ok.0 in
    let i = c.args.number - c.self.inside.base in
    let kept = ap (λ v. set items i v) c.in-Some.ensures.value ∙ set-get_or items i c.in-Some.slot.now in (
      rw (← c.self.view_is) (same_end c.value_mut_in.result _ _ _ _ (λ _ _ _. refl) (λ _. ap (λ os. record { base = c.self.inside.base; slots = os }) kept)),
      record { writes_back = tt; value = c.value_mut_in.ensures.value ∙ rw (← c.self.view_is) (slot_found c.self.inside.base c.args.number items (omega arith) c.in-Some.slot.now (omega arith) c.in-Some.ensures.value) },
    )

pub returns-in-None : goal.returns-in-None
returns-in-None g c =
    let base = ap (λ (p : Slots g.row.T.Denot). p.base) c.self.view_is in
    let outside = past _ _ c.in-None.ensures.variant.1 in
    let len = c.self.inside.slots.ok.0 in
    (rw (← c.self.view_is) refl, record { writes_back = tt; value = rw (← c.self.view_is) (sym (slot_past c.self.inside.base c.args.number c.self.inside.slots.items (omega arith) (omega arith))) })
