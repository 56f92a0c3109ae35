use Rattle.std.proofs.Common.{◌++◌, sym, ap, ◌∙◌, arith}
use Rattle.std.proofs.lemmas.Result.{on_ok_weaker}
use Rattle.quic_sent_packets.specs.Places.{held}
use Rattle.quic_sent_packets.proofs.Joined.{at_below, at_from, added_below, added_from, below_added, below_more}
use Rattle.quic_sent_packets.proofs.Numbered.{all_from}
use Rattle.quic_sent_packets.proofs.packet_map.PacketMap.insert.Goals as goal

pub invariant_of-self-then-number-base : goal.invariant_of-self-then-number-base
invariant_of-self-then-number-base c = rw c.in_ok-insert.ensures.entries (below_added c.self.inside.ring.base c.self.inside.earlier.entries c.args.number c.args.packet (omega arith) c.self.invariant)

pub returns-then-number-base-clause-replaced : goal.returns-then-number-base-clause-replaced
returns-then-number-base-clause-replaced c =
    let m = c.self.inside in
    rw (← c.self.view_is, at_below m.ring.base m.earlier.entries (held m.ring) c.args.number (all_from m.ring.base m.ring.places) (omega arith)) c.in_ok-insert.ensures.old

pub returns-then-number-base-clause-ok : goal.returns-then-number-base-clause-ok
returns-then-number-base-clause-ok c =
    let m = c.self.inside in
    rw (← c.self.view_is)
    (ap (λ es. es ++ held m.ring) c.in_ok-insert.ensures.entries ∙ sym (added_below m.ring.base m.earlier.entries (held m.ring) c.args.number c.args.packet (all_from m.ring.base m.ring.places) (omega arith)))

pub invariant_of-self-2 : goal.invariant_of-self-2
invariant_of-self-2 c = below_more c.reach.new.self.base c.insert-2.new.self.base c.reach.new.earlier.entries c.insert-2.ensures.base c.reach.ensures.below

pub returns-clause-replaced : goal.returns-clause-replaced
returns-clause-replaced c =
    let both = c.reach.ensures.both ∙ c.self.view_is in
    rw (← both, at_from c.reach.new.self.base c.reach.new.earlier.entries (held c.reach.new.self) c.args.number c.reach.ensures.below c.reach.ensures.from) c.insert-2.ensures.replaced

pub returns-clause-ok : goal.returns-clause-ok
returns-clause-ok c =
    let both = c.reach.ensures.both ∙ c.self.view_is in
    rw (← both, added_from c.reach.new.self.base c.reach.new.earlier.entries (held c.reach.new.self) c.args.number c.args.packet c.reach.ensures.below c.reach.ensures.from)
    (on_ok_weaker c.insert-2.result (ap (λ es. c.reach.new.earlier.entries ++ es)) c.insert-2.ensures.ok)
