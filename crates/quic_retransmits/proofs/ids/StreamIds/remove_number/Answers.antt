use Rattle.quic_retransmits.proofs.IdSteps.{all_removed}
use Rattle.quic_retransmits.proofs.ids.StreamIds.remove_number.Goals as goal

pub invariant_of-self-2 : goal.invariant_of-self-2
invariant_of-self-2 c = rw c.remove.ensures.keys (all_removed c.self.inside.lone c.self.inside.ids.keys _ c.self.invariant)
