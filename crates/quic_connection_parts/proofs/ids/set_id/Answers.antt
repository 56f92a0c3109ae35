use Rattle.std.proofs.Common.{◌≡◌, ◌==◌, ℕ, List, subst, sym, ap, ◌∙◌}
use Rattle.std.specs.Prelude.{set}
use Rattle.std.specs.List.{position}
use Rattle.quic_machine.specs.Ids.{NumberedId}
use Rattle.quic_connection_parts.proofs.Living.{Gets, gets_at}
use Rattle.quic_connection_parts.proofs.ids.set_id.Goals as goal

pub returns-in-Some : goal.returns-in-Some
returns-in-Some c =
    let n : ℕ = c.args.cid.now.sequence in
    let at : position (λ (i : NumberedId). i.number == n) c.deref.result.now ≡ position (λ (i : NumberedId). i.number == n) c.args.living.now.items = ap (λ (l : List NumberedId). position (λ i. i.number == n) l) c.deref.ensures.value in
    record {
      living =
          ap (λ (x : NumberedId). set c.args.living.now.items c.in-Some.at x) c.issued.ensures
          ∙ (subst (Gets c.args.cid.now c.args.living.now.items) (sym (c.in-Some.ensures ∙ at)) (gets_at c.args.cid.now 0 c.args.living.now.items c.requires.rise)).0;
    }

pub returns-in_default : goal.returns-in_default
returns-in_default c =
    let n : ℕ = c.args.cid.now.sequence in
    let at : position (λ (i : NumberedId). i.number == n) c.deref.result.now ≡ position (λ (i : NumberedId). i.number == n) c.args.living.now.items = ap (λ (l : List NumberedId). position (λ i. i.number == n) l) c.deref.ensures.value in
    record { living = subst (Gets c.args.cid.now c.args.living.now.items) (sym (c.in_default.ensures ∙ at)) (gets_at c.args.cid.now 0 c.args.living.now.items c.requires.rise) }
