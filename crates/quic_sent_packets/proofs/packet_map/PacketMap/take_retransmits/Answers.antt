use Rattle.std.proofs.Common.{◌<◌, sym, subst, arith}
use Rattle.std.specs.List.{AllByRecursion}
use Rattle.quic_sent_packets.specs.Places.{held}
use Rattle.quic_sent_packets.proofs.Joined.{at_below, at_from, taken_below, taken_from, kept_below, kept_from}
use Rattle.quic_sent_packets.proofs.Numbered.{all_from}
use Rattle.quic_sent_packets.proofs.packet_map.PacketMap.take_retransmits.Goals as goal

pub invariant_of-self : goal.invariant_of-self
invariant_of-self c = subst (AllByRecursion (λ k. k < c.self.inside.ring.base)) (sym c.take_retransmits.ensures.numbers) c.self.invariant

pub returns-then-number-base-clause-taken : goal.returns-then-number-base-clause-taken
returns-then-number-base-clause-taken c =
    let m = c.self.inside in
    rw (← c.self.view_is, at_below m.ring.base m.earlier.entries (held m.ring) c.args.number (all_from m.ring.base m.ring.places) (omega arith)) c.take_retransmits.ensures.taken

pub returns-then-number-base-clause-none : goal.returns-then-number-base-clause-none
returns-then-number-base-clause-none c =
    let m = c.self.inside in
    rw (← c.self.view_is, at_below m.ring.base m.earlier.entries (held m.ring) c.args.number (all_from m.ring.base m.ring.places) (omega arith)) c.take_retransmits.ensures.none

pub returns-then-number-base-clause-left : goal.returns-then-number-base-clause-left
returns-then-number-base-clause-left c =
    let m = c.self.inside in
    rw (← c.self.view_is) (taken_below m.ring.base m.earlier.entries (held m.ring) c.take_retransmits.new.packets.entries c.args.number (all_from m.ring.base m.ring.places) (omega arith) c.take_retransmits.ensures.left)

pub returns-then-number-base-clause-unchanged : goal.returns-then-number-base-clause-unchanged
returns-then-number-base-clause-unchanged c =
    let m = c.self.inside in
    rw (← c.self.view_is) (kept_below m.ring.base m.earlier.entries (held m.ring) c.take_retransmits.new.packets.entries c.args.number (all_from m.ring.base m.ring.places) (omega arith) c.take_retransmits.ensures.unchanged)

pub returns-clause-taken : goal.returns-clause-taken
returns-clause-taken c =
    let m = c.self.inside in
    rw (← c.self.view_is, at_from m.ring.base m.earlier.entries (held m.ring) c.args.number c.self.invariant (omega arith)) c.take_retransmits-2.ensures.taken

pub returns-clause-none : goal.returns-clause-none
returns-clause-none c =
    let m = c.self.inside in
    rw (← c.self.view_is, at_from m.ring.base m.earlier.entries (held m.ring) c.args.number c.self.invariant (omega arith)) c.take_retransmits-2.ensures.none

pub returns-clause-left : goal.returns-clause-left
returns-clause-left c =
    let m = c.self.inside in
    rw (← c.self.view_is) (taken_from m.ring.base m.earlier.entries (held m.ring) (held c.take_retransmits-2.new.self) c.args.number c.self.invariant (omega arith) c.take_retransmits-2.ensures.left)

pub returns-clause-unchanged : goal.returns-clause-unchanged
returns-clause-unchanged c =
    let m = c.self.inside in
    rw (← c.self.view_is) (kept_from m.ring.base m.earlier.entries (held m.ring) (held c.take_retransmits-2.new.self) c.args.number c.self.invariant (omega arith) c.take_retransmits-2.ensures.unchanged)
