use Rattle.std.proofs.Common.{Some, sym, ap, ◌∙◌, set, refl}
use mathlib.Core.Logic.{inr}
use Rattle.std.proofs.lemmas.List.{set-get_or}
use Rattle.quic_streams_parts.specs.Woven.{woven}
use Rattle.quic_streams_parts.proofs.Woven.{found_past, found_at, one_put}
use Rattle.quic_streams_parts.proofs.Lent.{same_lent}
use Rattle.quic_streams_parts.proofs.numbered.Numbered.get_mut.Goals as goal

pub returns-in_default : goal.returns-in_default
returns-in_default g c = (
  rw (← c.self.view_is) refl,
  record { writes_back = tt; value = rw (← c.self.view_is) (sym (found_past c.self.inside.kinds.items c.self.invariant c.args.number c.kind_of.result c.kind_of.ensures c.in_default.ensures.item.3)) },
)

pub returns-in-Some-get_mut : goal.returns-in-Some-get_mut
returns-in-Some-get_mut g c =
    let ts = c.self.inside.kinds.items in
    let found = c.in-Some.ensures.item in (
      rw (← c.self.view_is)
          (same_lent c.get_mut-in-Some-get_mut.result.ghost_name _ _ (λ w. one_put ts c.self.invariant c.args.number c.kind_of.result c.kind_of.ensures c.in-Some.kind.now found.3.0 found.1 c.in-Some-get_mut.kept.now w (sym c.in-Some-get_mut.ensures.value))),
      record {
        writes_back = tt;
        value = rw (← c.self.view_is) (ap Some c.get_mut-in-Some-get_mut.ensures.value ∙ c.in-Some-get_mut.ensures.value ∙ sym (found_at ts c.self.invariant c.args.number c.kind_of.result c.kind_of.ensures c.in-Some.kind.now found.3.0 found.1));
      },
    )

pub returns-in-None : goal.returns-in-None
returns-in-None g c =
    let ts = c.self.inside.kinds.items in
    let found = c.in-Some.ensures.item in
    let kept = ap (λ v. set ts c.kind_of.result v) found.1 ∙ set-get_or ts c.kind_of.result c.in-Some.kind.now in (
      rw (← c.self.view_is) (ap (λ us. inr (woven 0 us)) kept),
      record { writes_back = tt; value = rw (← c.self.view_is) (c.in-None.ensures.value ∙ sym (found_at ts c.self.invariant c.args.number c.kind_of.result c.kind_of.ensures c.in-Some.kind.now found.3.0 found.1)) },
    )
