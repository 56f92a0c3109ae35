use Rattle.std.proofs.Common.{◌≡◌, List, ℕ, sym, ap, ◌∙◌, subst, rules}
use Rattle.std.specs.Ordering.{nat_cmp}
use Rattle.std.specs.List.Sorted.{IsStrictlySortedBy}
use Rattle.std.proofs.lemmas.Bool.{not-true, not-false}
use Rattle.quic_retransmits.specs.Retransmits.{with_id, without_id}
use Rattle.quic_retransmits.proofs.IdSteps.{taken_back, known_before, all_ordered}
use Rattle.quic_retransmits.proofs.ids.StreamIds.take_back.Goals as goal

pub returns-then-was_new : goal.returns-then-was_new
returns-then-was_new c = λ before put new.
    let gone : c.remove_number.new.self ≡ without_id c.args.id c.args.self.now = search rules in
    gone ∙ ap (λ (l : List ℕ). without_id c.args.id l) put
    ∙ taken_back c.args.id before (not-true _ (sym new ∙ c.if-was_new.true))

pub returns-else-was_new : goal.returns-else-was_new
returns-else-was_new c = λ before put new.
    let ordered : IsStrictlySortedBy nat_cmp (with_id c.args.id before) = subst (IsStrictlySortedBy nat_cmp) (c.self.view_is ∙ put) (all_ordered c.self.inside.lone c.self.inside.ids.keys c.len-count.ensures.ordered) in
    put ∙ known_before c.args.id before ordered (not-false _ (sym new ∙ c.if-was_new.false))
