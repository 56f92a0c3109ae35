use Rattle.std.proofs.Common.{ap, ◌∙◌, set, arith}
use Rattle.quic_streams_parts.specs.Table.{at, added}
use Rattle.quic_sent_packets.specs.Places.{Places, held}
use Rattle.quic_sent_packets.proofs.Looked.{place_found, place_set}
use Rattle.quic_sent_packets.proofs.ring.Ring.insert.Goals as goal

pub returns-clause-replaced : goal.returns-clause-replaced
returns-clause-replaced c =
    let base = ap (λ (p : Places). p.base) c.self.view_is in
    let same = c.in_ok-widen.ensures.held c.self.inside.base ∙ ap held c.self.view_is ∙ c.start_at.ensures.held in
    let long = c.in_ok-widen.ensures.ok in
    c.replace.ensures.value
    ∙ place_found c.self.inside.base c.args.number c.widen.new.places.items (omega arith) c.index_mut.result.now (omega arith) c.index_mut.ensures.value
    ∙ ap (λ es. at es c.args.number) same

pub returns-clause-ok : goal.returns-clause-ok
returns-clause-ok c =
    let base = ap (λ (p : Places). p.base) c.self.view_is in
    let same = c.in_ok-widen.ensures.held c.self.inside.base ∙ ap held c.self.view_is ∙ c.start_at.ensures.held in
    let long = c.in_ok-widen.ensures.ok in
    place_set c.self.inside.base c.args.number c.widen.new.places.items (omega arith) _ c.args.packet (omega arith) (ap (set c.widen.new.places.items _) c.replace.ensures.after)
    ∙ ap (λ es. added es c.args.number c.args.packet) same
