use Rattle.std.proofs.Common.{sym, ap, refl, arith}
use Rattle.quic_sent_packets.specs.Places.{Places}
use Rattle.quic_sent_packets.proofs.Looked.{past, place_found, place_past}
use Rattle.quic_sent_packets.proofs.ring.Ring.get.Goals as goal

pub returns-in-Some : goal.returns-in-Some
returns-in-Some c =
    let base = ap (λ (p : Places). p.base) c.self.view_is in
    let within = c.in-Some.ensures.variant.0 refl in
    let len = c.self.inside.places.ok.0 in
    rw (c.as_ref.ensures.value, ← c.self.view_is) (place_found c.self.inside.base c.args.number c.self.inside.places.items (omega arith) c.in-Some.place.now (omega arith) c.in-Some.ensures.lookup)

pub returns-in-None : goal.returns-in-None
returns-in-None c =
    let base = ap (λ (p : Places). p.base) c.self.view_is in
    let outside = past _ _ c.in-None.ensures.variant.1 in
    let len = c.self.inside.places.ok.0 in
    rw (← c.self.view_is) (sym (place_past c.self.inside.base c.args.number c.self.inside.places.items (omega arith) (omega arith)))
