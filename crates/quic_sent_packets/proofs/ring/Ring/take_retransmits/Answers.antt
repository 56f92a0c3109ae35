use Rattle.std.proofs.Common.{ap, refl, arith}
use Rattle.quic_sent_packets.specs.Places.{Places}
use Rattle.quic_sent_packets.proofs.Looked.{past, place_found, place_past, place_taken, place_kept}
use Rattle.quic_sent_packets.proofs.ring.Ring.take_retransmits.Goals as goal

pub returns-in_default-clause-taken : goal.returns-in_default-clause-taken
returns-in_default-clause-taken c =
    let base = ap (λ (p : Places). p.base) c.self.view_is in
    let outside = past _ _ c.in_default.ensures.variant.1 in
    let len = c.self.inside.places.ok.0 in
    rw (← c.self.view_is, place_past c.self.inside.base c.args.number c.self.inside.places.items (omega arith) (omega arith)) tt

pub returns-in_default-clause-left : goal.returns-in_default-clause-left
returns-in_default-clause-left c =
    let base = ap (λ (p : Places). p.base) c.self.view_is in
    let outside = past _ _ c.in_default.ensures.variant.1 in
    let len = c.self.inside.places.ok.0 in
    rw (← c.self.view_is, place_past c.self.inside.base c.args.number c.self.inside.places.items (omega arith) (omega arith)) tt

pub returns-clause-taken : goal.returns-clause-taken
returns-clause-taken c =
    let base = ap (λ (p : Places). p.base) c.self.view_is in
    let within = c.in-Some.ensures.variant.0 refl in
    let len = c.self.inside.places.ok.0 in
    let found = place_found c.self.inside.base c.args.number c.self.inside.places.items (omega arith) c.in-Some.place.now (omega arith) c.in-Some.ensures.value in
    rw (← c.self.view_is, ← found) c.take_retransmits.ensures.taken

pub returns-clause-none : goal.returns-clause-none
returns-clause-none c =
    let base = ap (λ (p : Places). p.base) c.self.view_is in
    let within = c.in-Some.ensures.variant.0 refl in
    let len = c.self.inside.places.ok.0 in
    let found = place_found c.self.inside.base c.args.number c.self.inside.places.items (omega arith) c.in-Some.place.now (omega arith) c.in-Some.ensures.value in
    rw (← c.self.view_is, ← found) c.take_retransmits.ensures.none

pub returns-clause-left : goal.returns-clause-left
returns-clause-left c =
    let base = ap (λ (p : Places). p.base) c.self.view_is in
    let within = c.in-Some.ensures.variant.0 refl in
    let len = c.self.inside.places.ok.0 in
    rw (← c.self.view_is)
    (place_taken c.self.inside.base c.args.number c.self.inside.places.items (omega arith) c.in-Some.place.now c.take_retransmits.new.place _ (omega arith) c.in-Some.ensures.value refl c.take_retransmits.ensures.left)

pub returns-clause-unchanged : goal.returns-clause-unchanged
returns-clause-unchanged c =
    let base = ap (λ (p : Places). p.base) c.self.view_is in
    let within = c.in-Some.ensures.variant.0 refl in
    let len = c.self.inside.places.ok.0 in
    rw (← c.self.view_is)
    (place_kept c.self.inside.base c.args.number c.self.inside.places.items (omega arith) c.in-Some.place.now c.take_retransmits.new.place _ (omega arith) c.in-Some.ensures.value refl c.take_retransmits.ensures.unchanged)
