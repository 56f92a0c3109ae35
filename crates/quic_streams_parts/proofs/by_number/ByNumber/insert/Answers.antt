use Rattle.std.proofs.Common.{◌++◌, sym, ap, subst, ◌∙◌, arith}
use Rattle.std.specs.List.Sorted.{IsStrictlySortedBy}
use Rattle.std.specs.Map.{keys_of}
use Rattle.std.specs.Ordering.{nat_cmp}
use Rattle.std.proofs.lemmas.Result.{on_ok_weaker}
use Rattle.quic_streams_parts.specs.Table.{Table}
use Rattle.quic_streams_parts.specs.TableLaws.{sorted-added}
use Rattle.quic_streams_parts.specs.Slots.{held}
use Rattle.quic_streams_parts.proofs.Joined.{at_below, at_from, added_below, added_from, below_added, below_more}
use Rattle.quic_streams_parts.proofs.Ordered.{split_ordered, first_ordered}
use Rattle.quic_streams_parts.proofs.Slotted.{all_from}
use Rattle.quic_streams_parts.proofs.by_number.ByNumber.insert.Goals as goal

pub returns-in_err-insert-clause-was_ordered : goal.returns-in_err-insert-clause-was_ordered
returns-in_err-insert-clause-was_ordered g c = rw (← c.self.view_is) (split_ordered c.self.inside.earlier.entries c.self.inside.ring c.self.invariant)

pub invariant_of-self-then-number-base : goal.invariant_of-self-then-number-base
invariant_of-self-then-number-base g c =
    let m = c.self.inside in
    rw c.in_ok-insert.ensures.entries (record {
      below = below_added m.ring.base m.earlier.entries c.args.number c.args.value (omega arith) c.self.invariant.below;
      ordered = sorted-added m.earlier.entries c.args.number c.args.value c.self.invariant.ordered;
    })

pub returns-then-number-base-clause-replaced : goal.returns-then-number-base-clause-replaced
returns-then-number-base-clause-replaced g c =
    let m = c.self.inside in
    rw (← c.self.view_is, at_below m.ring.base m.earlier.entries (held m.ring) c.args.number (all_from m.ring.base m.ring.slots) (omega arith)) c.in_ok-insert.ensures.old

pub returns-then-number-base-clause-ok : goal.returns-then-number-base-clause-ok
returns-then-number-base-clause-ok g c =
    let m = c.self.inside in
    rw (← c.self.view_is)
    (ap (λ es. es ++ held m.ring) c.in_ok-insert.ensures.entries
    ∙ sym (added_below m.ring.base m.earlier.entries (held m.ring) c.args.number c.args.value (all_from m.ring.base m.ring.slots) (omega arith)))

pub returns-then-number-base-clause-was_ordered : goal.returns-then-number-base-clause-was_ordered
returns-then-number-base-clause-was_ordered g c = rw (← c.self.view_is) (split_ordered c.self.inside.earlier.entries c.self.inside.ring c.self.invariant)

pub invariant_of-self-in_err-reach : goal.invariant_of-self-in_err-reach
invariant_of-self-in_err-reach g c =
    let all = split_ordered c.self.inside.earlier.entries c.self.inside.ring c.self.invariant in
    record {
      below = c.reach.ensures.below;
      ordered = first_ordered c.reach.new.earlier.entries (held c.reach.new.self) (subst (λ (es : Table g.row.T.Denot). IsStrictlySortedBy nat_cmp (keys_of es)) (sym c.reach.ensures.both) all);
    }

pub returns-in_err-reach-clause-was_ordered : goal.returns-in_err-reach-clause-was_ordered
returns-in_err-reach-clause-was_ordered g c = rw (← c.self.view_is) (split_ordered c.self.inside.earlier.entries c.self.inside.ring c.self.invariant)

pub invariant_of-self-2 : goal.invariant_of-self-2
invariant_of-self-2 g c =
    let all = split_ordered c.self.inside.earlier.entries c.self.inside.ring c.self.invariant in
    record {
      below = below_more c.reach.new.self.base c.insert-2.new.self.base c.reach.new.earlier.entries (let le = c.start_at.ensures.base in let same = c.insert-2.ensures.base in omega arith) c.reach.ensures.below;
      ordered = first_ordered c.reach.new.earlier.entries (held c.reach.new.self) (subst (λ (es : Table g.row.T.Denot). IsStrictlySortedBy nat_cmp (keys_of es)) (sym c.reach.ensures.both) all);
    }

pub returns-clause-replaced : goal.returns-clause-replaced
returns-clause-replaced g c =
    let both = ap (λ es. c.reach.new.earlier.entries ++ es) c.start_at.ensures.held ∙ c.reach.ensures.both ∙ c.self.view_is in
    let below = below_more c.reach.new.self.base c.start_at.new.self.base c.reach.new.earlier.entries c.start_at.ensures.base c.reach.ensures.below in
    rw (← both, at_from c.start_at.new.self.base c.reach.new.earlier.entries (held c.start_at.new.self) c.args.number below c.start_at.ensures.from) c.insert-2.ensures.replaced

pub returns-clause-ok : goal.returns-clause-ok
returns-clause-ok g c =
    let both = ap (λ es. c.reach.new.earlier.entries ++ es) c.start_at.ensures.held ∙ c.reach.ensures.both ∙ c.self.view_is in
    let below = below_more c.reach.new.self.base c.start_at.new.self.base c.reach.new.earlier.entries c.start_at.ensures.base c.reach.ensures.below in
    rw (← both, added_from c.start_at.new.self.base c.reach.new.earlier.entries (held c.start_at.new.self) c.args.number c.args.value below c.start_at.ensures.from)
    (on_ok_weaker c.insert-2.result (λ e. ap (λ es. c.reach.new.earlier.entries ++ es) e) c.insert-2.ensures.ok)

pub returns-clause-was_ordered : goal.returns-clause-was_ordered
returns-clause-was_ordered g c = rw (← c.self.view_is) (split_ordered c.self.inside.earlier.entries c.self.inside.ring c.self.invariant)
