use Rattle.std.proofs.Common.{arith, sym}
use Rattle.quic_streams_parts.specs.Slots.{held}
use Rattle.quic_streams_parts.proofs.Joined.{at_below, at_from}
use Rattle.quic_streams_parts.proofs.Slotted.{all_from}
use Rattle.quic_streams_parts.proofs.by_number.ByNumber.get.Goals as goal

pub returns-then-number-base : goal.returns-then-number-base
returns-then-number-base g c =
    let m = c.self.inside in
    rw (← c.self.view_is, at_from m.ring.base m.earlier.entries (held m.ring) c.args.number c.self.invariant.below (omega arith)) c.get.ensures

pub returns : goal.returns
returns g c =
    let m = c.self.inside in
    rw (← c.self.view_is, at_below m.ring.base m.earlier.entries (held m.ring) c.args.number (all_from m.ring.base m.ring.slots) (omega arith)) c.get-2.ensures.value

pub returns-then-is_behind : goal.returns-then-is_behind
returns-then-is_behind g c =
    let m = c.self.inside in
    rw (← c.self.view_is, at_below m.ring.base m.earlier.entries (held m.ring) c.args.number (all_from m.ring.base m.ring.slots) (omega arith)) (sym (c.is_behind.ensures c.if-is_behind.true))
