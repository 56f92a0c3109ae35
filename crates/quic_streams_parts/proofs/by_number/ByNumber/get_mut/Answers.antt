use Rattle.std.proofs.Common.{◌++◌, sym, ap, ◌∙◌, refl, arith}
use mathlib.Core.Logic.{inr}
use Rattle.std.specs.Option.{option_copied_mut}
use Rattle.quic_streams_parts.specs.Slots.{held}
use Rattle.quic_streams_parts.proofs.Joined.{at_below, at_from, put_below, put_from}
use Rattle.quic_streams_parts.proofs.Slotted.{all_from}
use Rattle.quic_streams_parts.proofs.Looked.{slot_put}
use Rattle.quic_streams_parts.proofs.Lent.{same_end, same_lent}
use Rattle.quic_streams_parts.proofs.by_number.ByNumber.get_mut.Goals as goal

pub returns-then-number-base : goal.returns-then-number-base
returns-then-number-base g c =
    let m = c.self.inside in
    let from = c.self.invariant.below in (
      rw (← c.self.view_is) (same_end c.get_mut.result _ _ _ _ (λ x e w. ap (λ es. m.earlier.entries ++ es) (slot_put m.ring.base c.args.number m.ring.slots (omega arith) x.now w (sym c.get_mut.ensures.value ∙ ap option_copied_mut e)) ∙ sym (put_from m.ring.base m.earlier.entries (held m.ring) c.args.number w from (omega arith))) (λ _. refl)),
      record { writes_back = tt; value = rw (← c.self.view_is, at_from m.ring.base m.earlier.entries (held m.ring) c.args.number from (omega arith)) c.get_mut.ensures.value },
    )

pub returns-in-Some : goal.returns-in-Some
returns-in-Some g c =
    let m = c.self.inside in
    let from = all_from m.ring.base m.ring.slots in (
      rw (← c.self.view_is) (same_lent c.in-Some.value.ghost_name _ _ (λ w. ap (λ es. es ++ held m.ring) (c.get_mut-2.follows.holds w).0 ∙ sym (put_below m.ring.base m.earlier.entries (held m.ring) c.args.number w from (omega arith)))),
      record { writes_back = tt; value = rw (← c.self.view_is, at_below m.ring.base m.earlier.entries (held m.ring) c.args.number from (omega arith)) c.in-Some.ensures.value },
    )

pub returns-in-None : goal.returns-in-None
returns-in-None g c =
    let m = c.self.inside in (
      rw (← c.self.view_is) (ap (λ es. inr (es.entries ++ held m.ring)) c.get_mut-2.follows.holds-at-none),
      record { writes_back = tt; value = rw (← c.self.view_is, at_below m.ring.base m.earlier.entries (held m.ring) c.args.number (all_from m.ring.base m.ring.slots) (omega arith)) c.in-None.ensures.value },
    )
