use Rattle.std.proofs.Common.{◌≡◌, ◌∙◌, ◌++◌, ◌∷◌, [], sym, ap, List, ℕ, rules}
use Rattle.quic_retransmits.specs.Retransmits.{without_ids}
use Rattle.quic_retransmits.proofs.IdSteps.{without_last}
use Rattle.quic_retransmits.proofs.ids.StreamIds.remove_all.Goals as goal

pub loop-id-preserved : goal.loop-id-preserved
loop-id-preserved c =
    let last : c.loop-id.ids.items ≡ c.pop.new.self.items ++ c.in-Some.id ∷ [] = search rules in
    rw c.remove_number.ensures.new
    (sym (without_last c.pop.new.self.items c.in-Some.id c.loop-id.self)
    ∙ sym (ap (λ (l : List ℕ). without_ids l c.loop-id.self) last)
    ∙ c.loop-id.invariant)
