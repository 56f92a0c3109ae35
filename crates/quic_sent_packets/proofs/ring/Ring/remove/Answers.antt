use Rattle.std.proofs.Common.{sym, ap, refl, set, arith}
use Rattle.quic_sent_packets.specs.Places.{Places}
use Rattle.quic_sent_packets.proofs.Looked.{past, place_found, place_past, without_past, place_cleared}
use Rattle.quic_sent_packets.proofs.ring.Ring.remove.Goals as goal

pub returns-in_default-clause-taken : goal.returns-in_default-clause-taken
returns-in_default-clause-taken c =
    let base = ap (λ (p : Places). p.base) c.self.view_is in
    let outside = past _ _ c.in_default.ensures.variant.1 in
    let len = c.self.inside.places.ok.0 in
    rw (← c.self.view_is) (sym (place_past c.self.inside.base c.args.number c.self.inside.places.items (omega arith) (omega arith)))

pub returns-in_default-clause-left : goal.returns-in_default-clause-left
returns-in_default-clause-left c =
    let base = ap (λ (p : Places). p.base) c.self.view_is in
    let outside = past _ _ c.in_default.ensures.variant.1 in
    let len = c.self.inside.places.ok.0 in
    rw (← c.self.view_is) (sym (without_past c.self.inside.base c.args.number c.self.inside.places.items (omega arith) (omega arith)))

pub returns-clause-taken : goal.returns-clause-taken
returns-clause-taken c =
    let base = ap (λ (p : Places). p.base) c.self.view_is in
    let within = c.in-Some.ensures.variant.0 refl in
    let len = c.self.inside.places.ok.0 in
    rw (c.take-packet.ensures.value, ← c.self.view_is) (place_found c.self.inside.base c.args.number c.self.inside.places.items (omega arith) c.in-Some.place.now (omega arith) c.in-Some.ensures.value)

pub returns-clause-left : goal.returns-clause-left
returns-clause-left c =
    let base = ap (λ (p : Places). p.base) c.self.view_is in
    rw (c.trim.ensures.held, ← c.self.view_is)
    (place_cleared c.self.inside.base c.args.number c.self.inside.places.items (omega arith) _ (ap (set c.self.inside.places.items _) c.take-packet.ensures.after))
