use Rattle.std.proofs.Common.{◌++◌, sym, ap, ◌∙◌, arith}
use Rattle.quic_streams_parts.specs.Slots.{held}
use Rattle.quic_streams_parts.specs.TableLaws.{sorted-without, at-without}
use Rattle.quic_streams_parts.proofs.Joined.{at_below, at_from, without_below, without_from, below_without, below_more}
use Rattle.quic_streams_parts.proofs.Ordered.{split_ordered}
use Rattle.quic_streams_parts.proofs.Slotted.{all_from}
use Rattle.quic_streams_parts.proofs.by_number.ByNumber.remove.Goals as goal

pub invariant_of-self : goal.invariant_of-self
invariant_of-self g c =
    let m = c.self.inside in
    rw c.remove.ensures.entries (record {
      below = below_without m.ring.base m.earlier.entries c.args.number c.self.invariant.below;
      ordered = sorted-without m.earlier.entries c.args.number c.self.invariant.ordered;
    })

pub returns-then-number-base-clause-taken : goal.returns-then-number-base-clause-taken
returns-then-number-base-clause-taken g c =
    let m = c.self.inside in
    rw (← c.self.view_is, at_below m.ring.base m.earlier.entries (held m.ring) c.args.number (all_from m.ring.base m.ring.slots) (omega arith)) c.remove.ensures.value

pub returns-then-number-base-clause-left : goal.returns-then-number-base-clause-left
returns-then-number-base-clause-left g c =
    let m = c.self.inside in
    rw (← c.self.view_is)
    (ap (λ es. es ++ held m.ring) c.remove.ensures.entries ∙ sym (without_below m.ring.base m.earlier.entries (held m.ring) c.args.number (all_from m.ring.base m.ring.slots) (omega arith)))

pub invariant_of-self-2 : goal.invariant_of-self-2
invariant_of-self-2 g c = record {
  below = below_more c.self.inside.ring.base c.remove-2.new.self.base c.self.inside.earlier.entries c.remove-2.ensures.base c.self.invariant.below;
  ordered = c.self.invariant.ordered;
}

pub returns-clause-taken : goal.returns-clause-taken
returns-clause-taken g c =
    let m = c.self.inside in
    rw (← c.self.view_is, at_from m.ring.base m.earlier.entries (held m.ring) c.args.number c.self.invariant.below (omega arith)) c.remove-2.ensures.taken

pub returns-clause-left : goal.returns-clause-left
returns-clause-left g c =
    let m = c.self.inside in
    rw (← c.self.view_is)
    (ap (λ es. m.earlier.entries ++ es) c.remove-2.ensures.left ∙ sym (without_from m.ring.base m.earlier.entries (held m.ring) c.args.number c.self.invariant.below (omega arith)))

pub returns-then-number-base-clause-gone : goal.returns-then-number-base-clause-gone
returns-then-number-base-clause-gone g c = rw (returns-then-number-base-clause-left g c, ← c.self.view_is) (at-without (c.self.inside.earlier.entries ++ held c.self.inside.ring) c.args.number (split_ordered c.self.inside.earlier.entries c.self.inside.ring c.self.invariant))

pub returns-clause-gone : goal.returns-clause-gone
returns-clause-gone g c = rw (returns-clause-left g c, ← c.self.view_is) (at-without (c.self.inside.earlier.entries ++ held c.self.inside.ring) c.args.number (split_ordered c.self.inside.earlier.entries c.self.inside.ring c.self.invariant))
