use Rattle.std.proofs.Common.{◌≡◌, ℕ, [], false, sym, ◌∙◌, subst, Result, Ok, Err, OnErr}
use Rattle.quic_retransmits.specs.Retransmits.{has_id}
use Rattle.quic_retransmits.specs.Lone.{all_ids}
use Rattle.quic_retransmits.proofs.IdSteps.{all_are, are_inserted, lone_joined, lone_lacks}
use Rattle.quic_retransmits.proofs.ids.StreamIds.insert.Goals as goal

on_err : {T E P : Type 0} (r : Result T E) → P → OnErr r P
on_err (Ok x) p = tt
on_err (Err e) p = p

pub returns-in_err-spread-clause-lacking : goal.returns-in_err-spread-clause-lacking
returns-in_err-spread-clause-lacking c =
    let i = c.self.inside in
    let id : c.into_inner-id.result ≡ c.args.id = c.into_inner-id.ensures.value ∙ c.from.ensures in
    let other = subst (λ (k : ℕ). has_id k (all_ids i.lone []) ≡ false) id (sym c.is_lone.ensures ∙ c.if-is_lone.false) in
    on_err c.from_residual.result (rw (← c.self.view_is) (lone_lacks i.lone i.ids.keys c.args.id c.in_err-spread.ensures.lacking other))

pub invariant_of-self-2 : goal.invariant_of-self-2
invariant_of-self-2 c =
    lone_joined c.spread.new.lone [] c.insert.new.self.keys c.in_ok-spread.ensures.none
    (rw c.in_ok-is_new.ensures.keys (are_inserted c.into_inner-id.result c.spread.new.ids.keys c.into_inner-id.ensures.bound (rw c.in_ok-spread.ensures.ok (all_are c.self.inside.lone c.self.inside.ids.keys c.self.invariant))))
