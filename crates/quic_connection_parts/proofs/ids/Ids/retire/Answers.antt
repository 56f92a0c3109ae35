use Rattle.std.proofs.Common.{◌≡◌, ◌==◌, ℕ, List, subst, sym, ap, ◌∙◌}
use Rattle.std.specs.List.{position}
use Rattle.quic_ids.specs.CidState.{Rise, without}
use Rattle.quic_machine.specs.Ids.{NumberedId}
use Rattle.quic_connection_parts.proofs.Living.{Goes, goes_at, rises, without_rises}
use Rattle.quic_connection_parts.proofs.Issued.{retired_own, changed_by, changed_before}
use Rattle.quic_connection_parts.proofs.ids.Ids.retire.Goals as goal
use Rattle.quic_connection_parts.proofs.ids.Ids.retire.Goals.{in-Some, in_default}

pub invariant_of-self-2 : goal.invariant_of-self-2
invariant_of-self-2 c =
    let i = c.self.inside in
    let inv = c.self.invariant in
    let n : ℕ = c.args.sequence in
    let e = c.in_ok-fewer.ensures in
    let own : c.on_cid_retirement.new.self ≡ record i.own { living = without n i.own.living } = e.new ∙ retired_own i.own n i.limit c.in_ok-fewer.fewer e.answer in
    let at : position (λ (m : NumberedId). m.number == n) c.deref.result.now ≡ position (λ (m : NumberedId). m.number == n) i.living.items = ap (λ (l : List NumberedId). position (λ m. m.number == n) l) c.deref.ensures.value in
    let goes = goes_at n 0 i.living.items (subst (λ (l : List ℕ). Rise l 0) (sym inv.0) (rises i.own.living 0 i.own.issued inv.1)) in
    let rise = without_rises n i.own.living 0 i.own.issued inv.1 in
    elim c.match-place_of.branch [
      | in-Some w ↦
          let g = subst (Goes n i.living.items) (sym (w.in-Some.ensures ∙ at)) goes in
          rw w.self-inside-is (rw (own, w.remove.ensures.items) (g.0 ∙ ap (λ (l : List ℕ). without n l) inv.0, rise, inv.2, inv.3))
      | in_default w ↦
          let g = subst (Goes n i.living.items) (sym (w.in_default.ensures ∙ at)) goes in
          rw w.self-inside-is (rw own (g.0 ∙ ap (λ (l : List ℕ). without n l) inv.0, rise, inv.2, inv.3))
    ]

pub returns-clause-ids : goal.returns-clause-ids
returns-clause-ids c =
    let i = c.self.inside in
    let inv = c.self.invariant in
    let n : ℕ = c.args.sequence in
    let e = c.in_ok-fewer.ensures in
    let at : position (λ (m : NumberedId). m.number == n) c.deref.result.now ≡ position (λ (m : NumberedId). m.number == n) i.living.items = ap (λ (l : List NumberedId). position (λ m. m.number == n) l) c.deref.ensures.value in
    let goes = goes_at n 0 i.living.items (subst (λ (l : List ℕ). Rise l 0) (sym inv.0) (rises i.own.living 0 i.own.issued inv.1)) in
    elim c.match-place_of.branch [
      | in-Some w ↦
          let g = subst (Goes n i.living.items) (sym (w.in-Some.ensures ∙ at)) goes in
          rw (← c.self.view_is) (rw w.self-inside-is (λ k. record { own = e.new k; living = (w.remove.ensures.items ∙ g.1) k; changed = changed_by i.changed _ g.2 k; undrawn = i.undrawn.items; limit = i.limit; peer = i.peer }))
      | in_default w ↦
          let g = subst (Goes n i.living.items) (sym (w.in_default.ensures ∙ at)) goes in
          rw (← c.self.view_is) (rw w.self-inside-is (λ k. record { own = e.new k; living = g.1 k; changed = changed_before i.changed _ g.2 k; undrawn = i.undrawn.items; limit = i.limit; peer = i.peer }))
    ]
