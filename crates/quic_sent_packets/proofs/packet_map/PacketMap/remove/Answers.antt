use Rattle.std.proofs.Common.{◌++◌, sym, ap, ◌∙◌, arith}
use Rattle.quic_sent_packets.specs.Places.{held}
use Rattle.quic_sent_packets.proofs.Joined.{at_below, at_from, without_below, without_from, below_without, below_more}
use Rattle.quic_sent_packets.proofs.Numbered.{all_from}
use Rattle.quic_sent_packets.proofs.packet_map.PacketMap.remove.Goals as goal

pub invariant_of-self : goal.invariant_of-self
invariant_of-self c = rw c.remove.ensures.entries (below_without c.self.inside.ring.base c.self.inside.earlier.entries c.args.number c.self.invariant)

pub returns-then-number-base-clause-taken : goal.returns-then-number-base-clause-taken
returns-then-number-base-clause-taken c =
    let m = c.self.inside in
    rw (← c.self.view_is, at_below m.ring.base m.earlier.entries (held m.ring) c.args.number (all_from m.ring.base m.ring.places) (omega arith)) c.remove.ensures.value

pub returns-then-number-base-clause-left : goal.returns-then-number-base-clause-left
returns-then-number-base-clause-left c =
    let m = c.self.inside in
    rw (← c.self.view_is)
    (ap (λ es. es ++ held m.ring) c.remove.ensures.entries ∙ sym (without_below m.ring.base m.earlier.entries (held m.ring) c.args.number (all_from m.ring.base m.ring.places) (omega arith)))

pub invariant_of-self-2 : goal.invariant_of-self-2
invariant_of-self-2 c = below_more c.self.inside.ring.base c.remove-2.new.self.base c.self.inside.earlier.entries c.remove-2.ensures.base c.self.invariant

pub returns-clause-taken : goal.returns-clause-taken
returns-clause-taken c =
    let m = c.self.inside in
    rw (← c.self.view_is, at_from m.ring.base m.earlier.entries (held m.ring) c.args.number c.self.invariant (omega arith)) c.remove-2.ensures.taken

pub returns-clause-left : goal.returns-clause-left
returns-clause-left c =
    let m = c.self.inside in
    rw (← c.self.view_is)
    (ap (λ es. m.earlier.entries ++ es) c.remove-2.ensures.left ∙ sym (without_from m.ring.base m.earlier.entries (held m.ring) c.args.number c.self.invariant (omega arith)))
